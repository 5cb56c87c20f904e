-- What a working set keeps true of its parts.
use Rattle.std.specs.Prelude.{ℕ, List, true, false}
use Rattle.vm_import.specs.declared.marks.Mark.{Mark}
use Rattle.vm_import.specs.declared.recent.RecentPages.{RecentPages}
use Rattle.vm_import.specs.declared.touch.RankedTouch.{RankedTouch}
use Rattle.vm_import.specs.Marks.{AreMarks}
use Rattle.vm_import.specs.Recent.{AreRecent}

-- the marks, and the pages that were read and written last, say what the touches that were kept cover
pub record IsSound (pages : List ℕ) (marks : List Mark) (kept : List RankedTouch) (read written : RecentPages) : Type 0 where
  pub marks_are : AreMarks pages marks kept
  pub read_are : AreRecent pages kept false read
  pub written_are : AreRecent pages kept true written
