-- The blocks of a host log: what stands in front of each line `---`.
use Rattle.std.specs.Prelude.{ℕ, ◌+◌, Bool, if◌then◌else◌, List, [], ◌∷◌, ◌++◌, bytes_eq, codes, drop, length}
use Rattle.vm_samples.specs.Lines.{lines_of}

-- the line that ends a block
abbrev pub is_mark : List ℕ → Bool
is_mark line = bytes_eq line (codes "---")

-- the blocks of these lines, of which the first has these bytes already
abbrev pub blocks_from : List ℕ → List (List ℕ) → List (List ℕ)
blocks_from before [] = []
blocks_from before (line ∷ lines) =
    if is_mark line then before ∷ blocks_from [] lines else blocks_from (before ++ (line ++ 10 ∷ [])) lines

-- the blocks of a stream, in order: the bytes of each with the ends of its lines
abbrev pub blocks_of : List ℕ → List (List ℕ)
blocks_of bytes = blocks_from [] (lines_of bytes)

-- how many bytes blocks take with the lines `---` behind them
abbrev pub taken_by : List (List ℕ) → ℕ
taken_by [] = 0
taken_by (block ∷ blocks) = length block + 4 + taken_by blocks

-- what stands behind the last line `---` of a stream
abbrev pub unended_of : List ℕ → List ℕ
unended_of bytes = drop (taken_by (blocks_of bytes)) bytes
