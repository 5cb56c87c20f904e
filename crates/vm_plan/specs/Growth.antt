-- Stretches that grow at their end: for private contracts alone.
use Rattle.std.specs.Prelude.{ℕ, ◌+◌, ◌-◌, ◌<◌, ◌==◌, ⊤, List, [], ◌∷◌, length, slice_get, if◌then◌else◌}
use Rattle.std.specs.Option.{option_map_or}
use Rattle.vm_plan.specs.declared.stretch.Stretch.{Stretch}

-- how long a stretch is, if it is of this position
abbrev pub count_if : Stretch → ℕ → ℕ
count_if stretch position = if stretch.position == position then stretch.count else 0

-- how often a position comes at the end of some stretches
abbrev pub count_at_end : List Stretch → ℕ → ℕ
count_at_end stretches position = option_map_or (λ last. count_if last position) (slice_get stretches (length stretches - 1)) 0

-- so many equal positions more behind some stretches
abbrev pub with_more : ℕ → List Stretch → ℕ → List Stretch
with_more count [] position = record { position = position; count = count } ∷ []
with_more count (stretch ∷ []) position =
    if stretch.position == position
    then record stretch { count = stretch.count + count } ∷ []
    else stretch ∷ record { position = position; count = count } ∷ []
with_more count (stretch ∷ next ∷ stretches) position = stretch ∷ with_more count (next ∷ stretches) position

-- each stretch has a position
abbrev pub AreCounted : List Stretch → Type 0
AreCounted [] = ⊤
AreCounted (stretch ∷ stretches) = (0 < stretch.count) × AreCounted stretches
