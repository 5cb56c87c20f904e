-- Pages of one word that come into a set or leave it together.
use Rattle.std.specs.Prelude.{◌+◌, ◌-◌, ◌*◌, ◌%◌, ◌^◌, ℕ, List, [], ◌∷◌, bit_and, bit_or, fold}
use Rattle.std.specs.Int.{bit_at}

-- the word with the bit of the page
abbrev pub with_bit : ℕ → ℕ → ℕ
with_bit word page = bit_or word (1 * 2 ^ (page % 64) % 2 ^ 64)

-- the word with the bits of pages
abbrev pub with_bits : ℕ → List ℕ → ℕ
with_bits word pages = fold with_bit word pages

-- how many of those bits it did not have
abbrev pub bits_gained : ℕ → List ℕ → ℕ
bits_gained word [] = 0
bits_gained word (page ∷ pages) = 1 - bit_at word (page % 64) + bits_gained (with_bit word page) pages

-- the word without the bit of the page
abbrev pub without_bit : ℕ → ℕ → ℕ
without_bit word page = bit_and word (2 ^ 64 - 1 - 1 * 2 ^ (page % 64) % 2 ^ 64)

-- the word without the bits of pages
abbrev pub without_bits : ℕ → List ℕ → ℕ
without_bits word pages = fold without_bit word pages

-- how many of those bits it had
abbrev pub bits_lost : ℕ → List ℕ → ℕ
bits_lost word [] = 0
bits_lost word (page ∷ pages) = bit_at word (page % 64) + bits_lost (without_bit word page) pages
