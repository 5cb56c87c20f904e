use Rattle.vm_trace.proofs.error.TraceErrorDisplay.fmt.Goals as goal

pub returns-in-Unknown-clause-writes : goal.returns-in-Unknown-clause-writes
returns-in-Unknown-clause-writes g c = rw c.in-Unknown.is c.write.ensures.writes

pub returns-in-Number-clause-writes : goal.returns-in-Number-clause-writes
returns-in-Number-clause-writes g c = rw c.in-Number.is c.write-in-Number.ensures.writes

pub returns-in-Range-clause-writes : goal.returns-in-Range-clause-writes
returns-in-Range-clause-writes g c = rw c.in-Range.is c.write-in-Range.ensures.writes

pub returns-in-Hex-clause-writes : goal.returns-in-Hex-clause-writes
returns-in-Hex-clause-writes g c = rw c.in-Hex.is c.write-in-Hex.ensures.writes

pub returns-in-Length-clause-writes : goal.returns-in-Length-clause-writes
returns-in-Length-clause-writes g c = rw c.in-Length.is c.write-in-Length.ensures.writes
