-- Values with a step between them.
use Rattle.std.proofs.Common.{◌≡◌, ℕ, ◌+◌, ◌-◌, ◌*◌, ◌/◌, ◌<◌, ◌≤◌, ◌^◌, [], ◌∷◌, length, get_or, Some, slice_get, ap, ◌∙◌, arith}
use Rattle.std.proofs.Math.Nat.{mul-le-mul_right, div-mul-le_self, lt-div-mul-add}
use Rattle.std.proofs.lemmas.List.FromFn.{length-map-range_with_len, get_or-map-range_with_len}
use Rattle.std.proofs.lemmas.Option.{slice_get-get_or}
use Rattle.std.specs.List.{All}
use Rattle.vm_lists.specs.Ranges.{spaced, count_of, range_of}

pub length-spaced : (from step count : ℕ) → length (spaced from step count) ≡ count
unfolding spaced
length-spaced from step count = length-map-range_with_len (λ place. from + place * step) 0 count

pub slice_get-spaced : (from step count place : ℕ) → place < count → slice_get (spaced from step count) place ≡ Some (from + place * step)
unfolding spaced
slice_get-spaced from step count place below =
    let inside : place < length (spaced from step count) = omega (arith, length-spaced from step count) in
    slice_get-get_or (spaced from step count) place 0 inside
    ∙ ap Some (get_or-map-range_with_len (λ place. from + place * step) 0 count place place 0 below (omega arith))

-- no value is above the last one
pub value_below : (from step count place : ℕ) → place < count → from + (count - 1) * step < 2 ^ 32 → from + place * step < 2 ^ 32
value_below from step count place below last =
    let before : place ≤ count - 1 = omega arith in
    omega (arith, mul-le-mul_right step before)

-- a range from a number to itself
pub range_of-same : (n step : ℕ) → 0 < step → range_of n n step ≡ n ∷ []
unfolding spaced
range_of-same n step some =
    let one : (n - n) / step + 1 ≡ 1 = omega arith in
    rw one (ap (λ first. first ∷ []) (omega arith))

get_or-spaced : (from step count place d : ℕ) → place < count → get_or (spaced from step count) place d ≡ from + place * step
unfolding spaced
get_or-spaced from step count place d below = get_or-map-range_with_len (λ place. from + place * step) 0 count place place d below (omega arith)

-- no value of a range is outside, and the next one would be
pub range_within : (from to step : ℕ) → from ≤ to → All (λ value. (from ≤ value) × (value ≤ to)) (range_of from to step)
range_within from to step ordered = λ k d l.
    let count = length-spaced from step (count_of from to step) in
    let below : k < count_of from to step = omega arith in
    let before : k ≤ (to - from) / step = omega arith in
    let here = get_or-spaced from step (count_of from to step) k d below in
    let part = mul-le-mul_right step before in
    let whole = div-mul-le_self (to - from) step in
    (omega arith, omega arith)

pub range_last : (from to step : ℕ) → from ≤ to → 0 < step → to < from + length (range_of from to step) * step
range_last from to step ordered some =
    let count = length-spaced from step (count_of from to step) in
    let beyond : to - from < (to - from) / step * step + step = lt-div-mul-add some in
    rw count (omega arith)
