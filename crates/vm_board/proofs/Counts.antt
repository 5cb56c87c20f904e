-- Small facts of numbers, so that no search for them reads all that is known where they are used.
use Rattle.std.proofs.Common.{◌≡◌, ◌+◌, ◌-◌, ◌<◌, ◌≤◌, ℕ, arith}

pub some_words : (words count : ℕ) → words ≡ count + 1 → 0 < words
some_words words count is = omega arith

pub number_word : (n words count : ℕ) → n < count → words ≡ count + 1 → n + 1 < words
number_word n words count less is = omega arith

pub some_weight : (weight : ℕ) → weight ≡ 1 → 0 < weight
some_weight weight is = omega arith

-- more than one is left where the counter is at most one short of the end
pub several : (weight seats counter : ℕ) → weight ≡ seats + 1 - counter → counter < seats → 1 < weight
several weight seats counter is more = omega arith

pub below_count : (n count slots : ℕ) → n < count → count ≡ slots → n < slots
below_count n count slots less is = omega arith

pub past_count : (n count slots : ℕ) → count ≤ n → count ≡ slots → slots ≤ n
past_count n count slots past is = omega arith

pub as_many : (weight seats : ℕ) → weight ≡ seats → 0 < seats → 0 < weight
as_many weight seats is some = omega arith

pub more_weight : (weight one other : ℕ) → weight ≡ one + other → 0 < one → 0 < weight
more_weight weight one other is some = omega arith

pub one_fewer : (seats counter : ℕ) → seats + 1 - counter - 1 ≡ seats + 1 - (counter + 1)
one_fewer seats counter = omega arith

pub as_roomy : (count was now : ℕ) → count ≤ was → now ≡ was → count ≤ now
as_roomy count was now fits same = omega arith

pub no_more : (was now n : ℕ) → was ≤ n → now ≤ was + 1 → now ≤ n + 1
no_more was now n few more = omega arith

-- what one had goes from those that are left to what is taken
pub first_taken : (whole left one mine : ℕ) → whole ≡ left + one → mine ≡ one → mine + left ≡ whole
first_taken whole left one mine is same = omega arith

pub one_taken : (whole was left one theirs mine now : ℕ) → was ≡ left + one → theirs ≡ one → now ≡ mine + theirs → mine + was ≡ whole → now + left ≡ whole
one_taken whole was left one theirs mine now is same more so_far = omega arith

pub one_pushed : (was now counter : ℕ) → now ≡ was + 1 → was + 1 ≡ counter → now + 1 ≡ counter + 1
one_pushed was now counter more is = omega arith
