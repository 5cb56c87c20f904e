-- Page buffers whose page numbers stand in one list.
use Rattle.std.specs.Prelude.{ℕ, ◌+◌, ◌*◌, ◌/◌, List, [], ◌∷◌, ◌++◌, drop, length, take}
use Rattle.vm_balloon.specs.Virtio.{page_buffer}

-- what a page buffer has beside its page numbers
pub record EndView : Type 0 where
  -- how many page numbers it has
  pub numbers : ℕ
  -- the bytes behind them, which are no page number
  pub rest : List ℕ

-- the bytes of page buffers, of which the page numbers stand in one list
abbrev pub bytes_of : List ℕ → List EndView → List (List ℕ)
bytes_of numbers [] = []
bytes_of numbers (b ∷ buffers) = (page_buffer (take b.numbers numbers) ++ b.rest) ∷ bytes_of (drop b.numbers numbers) buffers

-- how many page numbers the buffers have
abbrev pub numbers_of : List EndView → ℕ
numbers_of [] = 0
numbers_of (b ∷ buffers) = b.numbers + numbers_of buffers

-- what a page buffer of these bytes has
abbrev pub end_of : List ℕ → EndView
end_of bytes = record { numbers = length bytes / 4; rest = drop (4 * (length bytes / 4)) bytes }
