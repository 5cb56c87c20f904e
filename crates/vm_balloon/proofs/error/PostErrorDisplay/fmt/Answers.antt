use Rattle.vm_balloon.proofs.error.PostErrorDisplay.fmt.Goals as goal

pub returns-in-TooLong-clause-writes : goal.returns-in-TooLong-clause-writes
returns-in-TooLong-clause-writes g c = rw c.in-TooLong.is c.write_str-in-TooLong.ensures.writes
