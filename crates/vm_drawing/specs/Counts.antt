-- What is told of a count.
use Rattle.std.specs.Prelude.{ℕ, ◌==◌, List, [], ◌++◌, codes, if◌then◌else◌}
use Rattle.std.specs.Fmt.{decimal}

-- what a word ends with behind a count
abbrev pub ending_of : ℕ → List ℕ
ending_of count = if count == 1 then [] else codes "s"

-- so many of what a word names
unfoldable pub counted : ℕ → List ℕ → List ℕ
counted count word = decimal count ++ (codes " " ++ (word ++ ending_of count))
