-- Whether a write was refused, that a front of a text was written, and that a reader or a writer has failed since.
use Rattle.std.specs.Prelude.{◌≡◌, ℕ, ◌==◌, ◌&&◌, List, length, take, Bool, false, true, not, Option, Result, Ok, Err}
use Rattle.std.specs.Io.KnownBytes.{Appends}

-- whether a write of these bytes was refused: by an error, or by taking nothing where there was something
abbrev pub refuses : {E : Type 0} → Result ℕ E → List ℕ → Bool
refuses (Ok taken) bytes = (taken == 0) && not (length bytes == 0)
refuses (Err e) bytes = true

-- a front of the text was appended, and nothing else; `None` stands for bytes that aren't known, of which Appends, Keeps, Consumes
-- and IsAtEnd say nothing, and known ones stay known
abbrev pub AppendsFront : Option (List ℕ) → Option (List ℕ) → List ℕ → Type 0
AppendsFront old new text = (count : ℕ) × Appends old new (take count text)

-- a reader or a writer that had not failed before has failed since
abbrev pub NewlyFailed : Bool → Bool → Type 0
NewlyFailed old new = (old ≡ false) × (new ≡ true)
