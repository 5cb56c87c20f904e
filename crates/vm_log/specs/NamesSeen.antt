-- The names of the domains in samples, in order, each once.
use Rattle.std.specs.Prelude.{ℕ, Bool, true, false, List, [], ◌∷◌, bytes_eq, if◌then◌else◌}
use Rattle.vm_steer.specs.declared.fate.Fate.{Fate}
use Rattle.vm_steer.specs.declared.fate.Fate.TheVariants.{Left, Steered}
use Rattle.vm_steer.specs.Entries.{EntryView}
use Rattle.vm_steer.specs.Names.{is_before}

-- a name at its place among others, unless it stands there
abbrev pub with_name : (name : List ℕ) → (names : List (List ℕ)) → List (List ℕ)
with_name name [] = name ∷ []
with_name name (n ∷ names) =
    if bytes_eq n name then n ∷ names
    else (if is_before n name then n ∷ with_name name names else name ∷ n ∷ names)

abbrev pub is_steered : Fate → Bool
is_steered (Left left) = false
is_steered (Steered steered) = true

abbrev pub is_left : Fate → Bool
is_left (Left left) = true
is_left (Steered steered) = false

-- with the names of the domains of a sample for which this is so
abbrev pub with_names : (Fate → Bool) → (names : List (List ℕ)) → List EntryView → List (List ℕ)
with_names holds names [] = names
with_names holds names (e ∷ entries) = with_names holds (if holds e.fate then with_name e.name names else names) entries

abbrev pub names_from : (Fate → Bool) → (names : List (List ℕ)) → (samples : List (List EntryView)) → List (List ℕ)
names_from holds names [] = names
names_from holds names (sample ∷ samples) = names_from holds (with_names holds names sample) samples

-- the guests: the domains that are steered in one sample at least
abbrev pub guest_names : (samples : List (List EntryView)) → List (List ℕ)
guest_names samples = names_from is_steered [] samples

-- the domains that are left alone in one at least
abbrev pub left_names : (samples : List (List EntryView)) → List (List ℕ)
left_names samples = names_from is_left [] samples
