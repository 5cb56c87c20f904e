-- The lines of a host log.
use Rattle.std.specs.Prelude.{ℕ, ◌==◌, Bool, if◌then◌else◌, List, [], ◌∷◌}

abbrev pub is_line_end : ℕ → Bool
is_line_end byte = byte == 10

-- a byte in front of the first line, where there is a line
abbrev pub onto_line : ℕ → List (List ℕ) → List (List ℕ)
onto_line byte [] = []
onto_line byte (line ∷ lines) = (byte ∷ line) ∷ lines

-- The lines of bytes: LF ends each. What stands behind the last LF is no line.
abbrev pub lines_of : List ℕ → List (List ℕ)
lines_of [] = []
lines_of (byte ∷ bytes) = if is_line_end byte then [] ∷ lines_of bytes else onto_line byte (lines_of bytes)
