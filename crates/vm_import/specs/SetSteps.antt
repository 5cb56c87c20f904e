-- How one touch changes a working set.
use Rattle.std.specs.Prelude.{◌≡◌, ℕ, ◌==◌, ◌&&◌, ◌||◌, Bool, not, List, [], ◌∷◌, ◌++◌, fold, take, if◌then◌else◌}
use Rattle.std.specs.List.{list_any}
use Rattle.vm_import.specs.declared.touch.Touch.{Touch}
use Rattle.vm_import.specs.declared.touch.RankedTouch.{RankedTouch}
use Rattle.vm_import.specs.Kept.{rank_of, ranked}
use Rattle.vm_import.specs.WorkingSets.{WorkingSetView}

-- the pages, with this one behind them where it is new
abbrev pub with_page : List ℕ → ℕ → List ℕ
with_page pages page = if list_any (λ p. page == p) pages then pages else pages ++ page ∷ []

-- a touch that was kept covers one of the page of this rank
abbrev pub is_covered : List RankedTouch → ℕ → Bool → Bool
is_covered kept rank writes = list_any (λ t. (t.rank == rank) && (t.writes || not writes)) kept

-- the working set after one more touch
abbrev pub touched : WorkingSetView → Touch → WorkingSetView
touched set touch =
    let pages = with_page set.pages touch.page in
    let rank = rank_of pages touch.page in
    record {
      pages = pages;
      kept = if is_covered set.kept rank touch.writes then set.kept else set.kept ++ ranked pages touch ∷ [];
    }

-- the working set after more touches
unfoldable pub touched_all : WorkingSetView → List Touch → WorkingSetView
touched_all set touches = fold touched set touches

-- so many of the touches were added, from the first on
abbrev pub AddsFront : WorkingSetView → WorkingSetView → List Touch → Type 0
AddsFront old new touches = (count : ℕ) × (new ≡ touched_all old (take count touches))
