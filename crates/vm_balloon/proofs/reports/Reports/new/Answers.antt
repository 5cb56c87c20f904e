use Rattle.std.proofs.Common.{refl}
use Rattle.vm_balloon.proofs.reports.Reports.new.Goals as goal

pub returns : goal.returns
returns c = record { reports = rw (c.in_ok-posted.ensures.buffers, c.in_ok-served.ensures.buffers) refl; memory = tt }
