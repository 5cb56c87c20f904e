use Rattle.std.proofs.Common.{◌≡◌, ◌-◌, ◌^◌}
use Rattle.vm_import.specs.Reading.{Stays, left, length_in_all}
use Rattle.vm_import.proofs.reader.LogReader.access_by_lines.Given as goal

-- only lines that are passed over were read
abbrev pub invariant-loop-access : goal.invariant-loop-access
invariant-loop-access g l = record {
  left_is : Stays (left l.fn.self (g.R.Source.remaining l.fn.source)) (left l.self (g.R.Source.remaining l.source));
  length_is : Stays (length_in_all l.fn.self (g.R.Source.remaining l.fn.source)) (length_in_all l.self (g.R.Source.remaining l.source));
  stays : g.R.Source.has_failed l.source ≡ g.R.Source.has_failed l.fn.source;
}

abbrev pub decreases-loop-access : goal.decreases-loop-access
decreases-loop-access g l = 2 ^ 64 - l.self.lines
