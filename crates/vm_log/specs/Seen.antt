-- What samples tell of one domain. A good sample is what the policy makes of it: its domains in the order of their names.
use Rattle.std.specs.Prelude.{ℕ, List, [], ◌∷◌, bytes_eq, max, Option, Some, None, option_map, if◌then◌else◌}
use Rattle.vm_steer.specs.declared.fate.Fate.{Fate}
use Rattle.vm_steer.specs.declared.fate.Fate.TheVariants.{Left, Steered}
use Rattle.vm_steer.specs.declared.fate.SteeredDomain.{SteeredDomain}
use Rattle.vm_steer.specs.Entries.{EntryView}

-- ---- where it is steered

abbrev pub as_steered : Fate → Option SteeredDomain
as_steered (Left left) = None
as_steered (Steered steered) = Some steered

-- what is told of the domain with a name; no two that are steered have one
abbrev pub steered_in : (name : List ℕ) → List EntryView → Option SteeredDomain
steered_in name [] = None
steered_in name (e ∷ entries) = if bytes_eq e.name name then as_steered e.fate else steered_in name entries

-- the greater of two numbers, of which one or both may be absent
abbrev pub greater : Option ℕ → Option ℕ → Option ℕ
greater None other = other
greater (Some number) None = Some number
greater (Some number) (Some other) = Some (max number other)

-- the greatest number that samples tell of it, if any does
abbrev pub greatest : (SteeredDomain → ℕ) → (name : List ℕ) → (samples : List (List EntryView)) → Option ℕ
greatest number name [] = None
greatest number name (sample ∷ samples) = greater (option_map number (steered_in name sample)) (greatest number name samples)

-- the units that it used at most
abbrev pub use_in : (name : List ℕ) → (samples : List (List EntryView)) → Option ℕ
use_in name samples = greatest (λ d. d.used) name samples

-- the units of its size, at most
abbrev pub size_in : (name : List ℕ) → (samples : List (List EntryView)) → Option ℕ
size_in name samples = greatest (λ d. d.size) name samples

-- ---- where it is left alone

-- what it holds then
abbrev pub held_left : Fate → ℕ
held_left (Left left) = left.held
held_left (Steered steered) = 0

abbrev pub left_in : (name : List ℕ) → List EntryView → ℕ
left_in name [] = 0
left_in name (e ∷ entries) = max (if bytes_eq e.name name then held_left e.fate else 0) (left_in name entries)

-- the most that it held while it was left alone
abbrev pub most_left : (name : List ℕ) → (samples : List (List EntryView)) → ℕ
most_left name [] = 0
most_left name (sample ∷ samples) = max (left_in name sample) (most_left name samples)
