-- What is told of an odd key.
use Rattle.std.specs.Prelude.{ℕ, List, ◌++◌, Option, Some, None, codes}
use Rattle.json.specs.Print.{quoted}
use Rattle.vm_keys.specs.OddKeys.{Odd, unknown, twice}

abbrev pub told_nearest : Option (List ℕ) → List ℕ
told_nearest None = codes ""
told_nearest (Some near) = codes ", nearest is " ++ quoted near

-- of an object that is called so
abbrev pub told : List ℕ → Odd → List ℕ
told whose (unknown key near) = codes "key " ++ (quoted key ++ (codes ": no key of " ++ (whose ++ told_nearest near)))
told whose (twice key) = codes "key " ++ (quoted key ++ codes ": stands twice")
