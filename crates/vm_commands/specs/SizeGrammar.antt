-- Which texts are sizes: a number at once followed by a unit, as the `virsh` manual has it for `setmem`, KiB where none is named.
use Rattle.std.specs.Prelude.{◌≡◌, ℕ, ◌+◌, ◌*◌, ◌^◌, ◌<◌, ◌≤◌, List, [], ◌∷◌, ◌++◌, Contains, length, map, codes}
use Rattle.std.specs.List.{AllPass}
use Rattle.std.specs.Char.{is_ascii_digit, to_ascii_lowercase}
use Rattle.std.specs.Str.Parse.{digits_value}

-- the units: a name in lower case, and its bytes
abbrev pub units : List (List ℕ × ℕ)
units =
    (codes "", 1024) ∷ (codes "k", 1024) ∷ (codes "kib", 1024)
    ∷ (codes "b", 1) ∷ (codes "byte", 1) ∷ (codes "bytes", 1)
    ∷ (codes "kb", 1000)
    ∷ (codes "m", 1048576) ∷ (codes "mib", 1048576)
    ∷ (codes "mb", 1000000)
    ∷ (codes "g", 1073741824) ∷ (codes "gib", 1073741824)
    ∷ (codes "gb", 1000000000) ∷ []

-- these are the fewest pages, of `page` KiB each, that have room for the bytes
pub record IsFewestPages (page pages bytes : ℕ) : Type 0 where
  pub enough : bytes ≤ 1024 * page * pages
  pub fewest : 1024 * page * pages < bytes + 1024 * page

-- the text is a size of so many pages of `page` KiB
pub record IsSize (page : ℕ) (text : List ℕ) (pages : ℕ) : Type 0 where
  pub digits : List ℕ
  pub suffix : List ℕ
  pub unit : ℕ
  pub whole : text ≡ digits ++ suffix
  pub some : 1 ≤ length digits
  pub short : length digits ≤ 20
  pub decimal : AllPass is_ascii_digit digits
  pub named : Contains units (map to_ascii_lowercase suffix, unit)
  pub small : digits_value 10 digits * unit < 2 ^ 64
  pub rounded : IsFewestPages page pages (digits_value 10 digits * unit)
