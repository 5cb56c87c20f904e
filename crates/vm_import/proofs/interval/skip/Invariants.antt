use Rattle.std.proofs.Common.{◌≡◌}
use Rattle.vm_import.specs.Reading.{Stays, left, length_in_all}
use Rattle.vm_import.specs.Failing.{Skips}
use Rattle.vm_import.proofs.interval.skip.Given as goal

-- as many were skipped as calls were made
abbrev pub invariant-loop-skipped : goal.invariant-loop-skipped
invariant-loop-skipped g l = record {
  skips : Skips l.skipped (left l.fn.log (g.R.Source.remaining l.fn.reader)) (left l.log (g.R.Source.remaining l.reader));
  length : Stays (length_in_all l.fn.log (g.R.Source.remaining l.fn.reader)) (length_in_all l.log (g.R.Source.remaining l.reader));
  stays : g.R.Source.has_failed l.reader ≡ g.R.Source.has_failed l.fn.reader;
}
