use Rattle.std.proofs.Common.{◌≡◌, ◌<◌, ◌≤◌, List, [], length, None}
use Rattle.vm_import.specs.declared.access.Access.{Access}
use Rattle.vm_import.specs.Reading.{Stays, left, length_in_all}
use Rattle.vm_import.specs.Progress.{GoesOn, IsShort, IsUnderWay, limit_of}
use Rattle.vm_import.specs.Drafts.{with_steps}
use Rattle.vm_import.specs.Steps.{steps_of}
use Rattle.vm_import.specs.Settings.{settings_of}
use Rattle.vm_import.proofs.interval.read_accesses.Given as goal

-- as many accesses were read as calls were made, and the guest fits with them
abbrev pub invariant-loop-count : goal.invariant-loop-count
invariant-loop-count g l = record {
  goes : (before : List Access)
      → IsUnderWay (settings_of l.settings) before l.number [] l.fn.progress.set l.fn.progress.draft
      → (accesses : List Access) × (length accesses ≡ l.count)
      × GoesOn (settings_of l.settings) before l.number (left l.fn.log (g.R.Source.remaining l.fn.reader)) accesses
      (left l.log (g.R.Source.remaining l.reader)) l.progress.set l.progress.draft;
  fits : 0 < l.count → limit_of (settings_of l.settings) (length l.progress.set.pages) l.progress.draft ≡ None;
  pages : length l.fn.progress.set.pages ≤ length l.progress.set.pages;
  few : length l.progress.set.pages ≤ 262144;
  short : IsShort l.progress.draft;
  grows : l.progress.draft ≡ with_steps l.fn.progress.draft (steps_of l.number l.progress.set.kept);
  length : Stays (length_in_all l.fn.log (g.R.Source.remaining l.fn.reader)) (length_in_all l.log (g.R.Source.remaining l.reader));
  stays : g.R.Source.has_failed l.reader ≡ g.R.Source.has_failed l.fn.reader;
}
