-- The words of a PCG32 generator (O'Neill, "PCG: A Family of Simple Fast Space-Efficient Statistically Good Algorithms for Random
-- Number Generation", 2014: 64 bits of state, output XSH RR), and the numbers that draws make of them.
use Rattle.std.specs.Prelude.{ℕ, ◌*◌, ◌/◌, ◌^◌, List, map}
use Rattle.std.specs.List.{range_with_len}
use Rattle.rand_pcg.specs.Lcg.{Lcg, advance, started, increment_of}
use Rattle.rand_pcg.specs.Pcg.{multiplier_64, output_xsh_rr}

-- the generator of a seed and a stream, before its first word
abbrev pub generator_of : ℕ → ℕ → Lcg
generator_of seed stream = started 64 multiplier_64 seed (increment_of 64 stream)

-- the generator after n words
unfoldable pub words_after : ℕ → Lcg → Lcg
words_after n g = advance 64 multiplier_64 n g

-- the next word of a generator
unfoldable pub word : Lcg → ℕ
word g = output_xsh_rr g.state

-- the number below count that a word picks
unfoldable pub pick : ℕ → ℕ → ℕ
pick w count = w * count / 2 ^ 32

-- the number below count that the next word picks
abbrev pub draw : Lcg → ℕ → ℕ
draw g count = pick (word g) count

-- what n draws with replacement give, in order: the k-th is the draw after k words
abbrev pub draws : ℕ → ℕ → Lcg → List ℕ
draws n count g = map (λ k. draw (words_after k g) count) (range_with_len 0 n)
