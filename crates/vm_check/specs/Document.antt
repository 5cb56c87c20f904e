-- The JSON value of a text, with all members of its objects in their order, and its parts.
use Rattle.std.specs.Prelude.{ℕ, List, bytes_eq, codes, if◌then◌else◌, option_and_then, Option, Some, None}
use Rattle.std.specs.Str.{is_utf8}
use Rattle.json.specs.Find.{as_number, at, get}
use Rattle.json.specs.Json.{Json, document}
use Rattle.vm_config.specs.declared.place.Part.{Part}
use Rattle.vm_config.specs.declared.place.Part.TheVariants.{Root, Guest, Command}

-- the JSON value that a text is
abbrev pub tree_in : List ℕ → Option Json
tree_in bytes = if is_utf8 bytes then document bytes else None

-- the item of a number in the array at a key; of a key that comes twice the last value counts
abbrev pub item_in : (key : List ℕ) → (number : ℕ) → Json → Option Json
item_in key number j = option_and_then (at number) (get key j)

-- the object of a part
abbrev pub part_in : Part → Json → Option Json
part_in Root j = Some j
part_in (Guest number) j = item_in (codes "guests") number j
part_in (Command number) j = item_in (codes "commands") number j

-- the number at a key, as it is written
abbrev pub number_at : List ℕ → Json → Option (List ℕ)
number_at key j = option_and_then as_number (get key j)

-- a version that isn't 1 or 2 counts as the newest
abbrev pub version_by : Option (List ℕ) → ℕ
version_by None = 3
version_by (Some number) = if bytes_eq number (codes "1") then 1 else if bytes_eq number (codes "2") then 2 else 3

abbrev pub version_of : Json → ℕ
version_of j = version_by (number_at (codes "version") j)
