-- The pages that were touched last.
use Rattle.std.specs.Prelude.{◌≡◌, ℕ, ◌<◌, ◌^◌, ◌%◌, Bool, true, List, slice_index_or, slice_set}
use Rattle.vm_import.specs.declared.recent.RecentPages.{RecentPages}
use Rattle.vm_import.specs.declared.touch.RankedTouch.{RankedTouch}
use Rattle.vm_import.specs.Kept.{rank_of}
use Rattle.vm_import.specs.SetSteps.{is_covered}

-- the number at a place; past the end it is none that a page has
abbrev pub recent_at : RecentPages → ℕ → ℕ
recent_at recent place = slice_index_or recent.pages place 0xffff_ffff_ffff_ffff

-- with this page at its place
abbrev pub with_recent : RecentPages → ℕ → RecentPages
with_recent recent page = record { pages = slice_set recent.pages (page % 256) page }

-- if it is a page, touches of it are covered
abbrev pub IsRecent : List ℕ → List RankedTouch → Bool → ℕ → Type 0
IsRecent pages kept writes page = page < 2 ^ 52 → is_covered kept (rank_of pages page) writes ≡ true

-- touches of the recent pages are covered
abbrev pub AreRecent : List ℕ → List RankedTouch → Bool → RecentPages → Type 0
AreRecent pages kept writes recent = (place : ℕ) → IsRecent pages kept writes (recent_at recent place)
