-- The epochs that samples make, and what a domain used in each.
use Rattle.std.specs.Prelude.{ℕ, zero, suc, ◌+◌, List, [], ◌∷◌, drop, length, map, take, Option, Some, None}
use Rattle.std.specs.Int.{div_ceil}
use Rattle.vm_steer.specs.Entries.{EntryView}
use Rattle.vm_log.specs.Seen.{use_in}

-- so many lists of so many samples, one behind the other
abbrev pub cut : (every count : ℕ) → (samples : List (List EntryView)) → List (List (List EntryView))
cut every zero samples = []
cut every (suc count) samples = take every samples ∷ cut every count (drop every samples)

-- so many samples make an epoch; the last one may have fewer
abbrev pub epochs_of : (every : ℕ) → (samples : List (List EntryView)) → List (List (List EntryView))
epochs_of every samples = cut every (div_ceil (length samples) every) samples

-- what a domain used in each
abbrev pub uses_of : (every : ℕ) → (name : List ℕ) → (samples : List (List EntryView)) → List (Option ℕ)
uses_of every name samples = map (use_in name) (epochs_of every samples)

-- ---- from its first to its last

-- how many epochs are in front of the first in which it is there
abbrev pub absent_first : List (Option ℕ) → ℕ
absent_first [] = 0
absent_first (None ∷ uses) = 1 + absent_first uses
absent_first (Some used ∷ uses) = 0

abbrev pub without_front : List (Option ℕ) → List (Option ℕ)
without_front [] = []
without_front (None ∷ uses) = without_front uses
without_front (Some used ∷ uses) = Some used ∷ uses

abbrev pub unless_last : Option ℕ → List (Option ℕ) → List (Option ℕ)
unless_last None [] = []
unless_last None (next ∷ uses) = None ∷ next ∷ uses
unless_last (Some used) uses = Some used ∷ uses

abbrev pub without_end : List (Option ℕ) → List (Option ℕ)
without_end [] = []
without_end (used ∷ uses) = unless_last used (without_end uses)
