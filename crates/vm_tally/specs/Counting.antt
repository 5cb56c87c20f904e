-- Numbers of many things, together.
use Rattle.std.specs.Prelude.{ℕ, zero, suc, ◌+◌, ◌==◌, Bool, true, false, List, [], ◌∷◌, Option, Some, None, if◌then◌else◌, max, min}
use Rattle.std.specs.Option.{option_or}

abbrev pub one_if : Bool → ℕ
one_if true = 1
one_if false = 0

-- a number of each, added up
abbrev pub sum_each : {A : Type 0} → (A → ℕ) → List A → ℕ
sum_each number [] = 0
sum_each number (x ∷ xs) = number x + sum_each number xs

-- ---- a number of each of so many epochs, or positions, from 0 on

-- added up
abbrev pub sum_over : (ℕ → ℕ) → ℕ → ℕ
sum_over number zero = 0
sum_over number (suc k) = sum_over number k + number k

-- the least of them and of a first number
abbrev pub least_over : (first : ℕ) → (ℕ → ℕ) → ℕ → ℕ
least_over first number zero = first
least_over first number (suc k) = min (least_over first number k) (number k)

-- the greatest of them, or 0 where there is none
abbrev pub greatest_over : (ℕ → ℕ) → ℕ → ℕ
greatest_over number zero = 0
greatest_over number (suc k) = max (greatest_over number k) (number k)

-- the first of them that is such, if any
abbrev pub first_over : (ℕ → Bool) → ℕ → Option ℕ
first_over is_such zero = None
first_over is_such (suc k) = option_or (first_over is_such k) (if is_such k then Some k else None)

-- the first of them whose number is the greatest; none where each number is 0
abbrev pub first_greatest_over : (ℕ → ℕ) → ℕ → Option ℕ
first_greatest_over number n =
    if greatest_over number n == 0 then None else first_over (λ k. number k == greatest_over number n) n
