-- The values of a range.
use Rattle.std.specs.Prelude.{ℕ, ◌+◌, ◌-◌, ◌*◌, ◌/◌, List, map}
use Rattle.std.specs.List.{range_with_len}

-- so many values from this one on, with this step between them
unfoldable pub spaced : ℕ → ℕ → ℕ → List ℕ
spaced from step count = map (λ place. from + place * step) (range_with_len 0 count)

-- how many values a range has, its beginning and as many steps as fit up to its end
abbrev pub count_of : ℕ → ℕ → ℕ → ℕ
count_of from to step = (to - from) / step + 1

-- the values of a range: its beginning, and on by its step as far as it isn't above its end
abbrev pub range_of : ℕ → ℕ → ℕ → List ℕ
range_of from to step = spaced from step (count_of from to step)
