use Rattle.vm_check.proofs.what.WhatDisplay.fmt.Goals as goal

pub returns-in-AboveCommand-clause-writes : goal.returns-in-AboveCommand-clause-writes
returns-in-AboveCommand-clause-writes g c = rw c.in-AboveCommand.is c.write-in-AboveCommand.ensures.writes

pub returns-in-LongTrace-clause-writes : goal.returns-in-LongTrace-clause-writes
returns-in-LongTrace-clause-writes g c = rw (c.in-LongTrace.is, ← c.most_steps-most.ensures) c.write-in-LongTrace.ensures.writes
