use Rattle.vm_commands.proofs.error.LineFaultDisplay.fmt.Goals as goal

pub returns-in-Size-clause-writes : goal.returns-in-Size-clause-writes
returns-in-Size-clause-writes g c = rw c.in-Size.is c.write-in-Size.ensures.writes
