use Rattle.std.proofs.Common.{◌≡◌, ◌+◌, ◌-◌, ◌*◌, ◌≤◌, ◌^◌, [], length}
use Rattle.vm_import.specs.Reading.{Stays, left, length_in_all}
use Rattle.vm_import.specs.Importing.{AreTaken}
use Rattle.vm_import.specs.Settings.{settings_of}
use Rattle.vm_import.proofs.import.take_intervals.Given as goal

-- the intervals so far were taken, and each of them fills an epoch
abbrev pub invariant-loop-end : goal.invariant-loop-end
invariant-loop-end g l = record {
  taken : AreTaken (settings_of l.settings) (left l.fn.log (g.R.Source.remaining l.fn.reader))
      (g.W.Sink.contents l.fn.writer) (g.W.Sink.contents l.writer) l.interval l.size l.progress.set l.progress.draft
      (left l.log (g.R.Source.remaining l.reader));
  pages : l.size ≡ length l.progress.set.pages;
  few : l.size ≤ 262144;
  none : l.progress.set.kept ≡ [];
  steps : l.progress.draft.steps ≤ 1000000;
  idle : l.interval.idle ≤ l.settings.quantum;
  written : l.progress.draft.written ≤ 2 ^ 32;
  silent : l.size ≡ 0 → l.progress.draft.written ≡ 0;
  first : 1 ≤ l.interval.number;
  last : l.interval.number ≤ 10002;
  filled : l.interval.number * l.settings.quantum ≤ l.progress.draft.steps + l.interval.idle + l.settings.quantum;
  length : Stays (length_in_all l.fn.log (g.R.Source.remaining l.fn.reader)) (length_in_all l.log (g.R.Source.remaining l.reader));
  reads : g.R.Source.has_failed l.reader ≡ g.R.Source.has_failed l.fn.reader;
  writes : g.W.Sink.has_failed l.writer ≡ g.W.Sink.has_failed l.fn.writer;
}

abbrev pub decreases-loop-end : goal.decreases-loop-end
decreases-loop-end g l = 10003 - l.interval.number
