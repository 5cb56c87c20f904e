-- The odd keys of a part: those that the version doesn't know, and those that stand twice.
use Rattle.std.specs.Prelude.{ℕ, ◌==◌, List, [], ◌∷◌, ◌++◌, codes, map, if◌then◌else◌, Option, Some, None}
use Rattle.std.specs.Option.{option_map_or}
use Rattle.std.specs.Fmt.{decimal}
use Rattle.json.specs.Json.{Json}
use Rattle.json.specs.Print.{quoted}
use Rattle.vm_config.specs.declared.place.Key.{Key}
use Rattle.vm_config.specs.declared.place.Key.TheVariants as key
use Rattle.vm_config.specs.declared.place.Part.{Part}
use Rattle.vm_config.specs.declared.place.Part.TheVariants.{Root, Guest, Command}
use Rattle.vm_config.specs.Places.{name_of}
use Rattle.vm_keys.specs.Keys.{keys_in}
use Rattle.vm_keys.specs.OddKeys.{Odd, unknown, twice, odd_keys}
use Rattle.vm_check.specs.Document.{part_in, version_of}

-- ---- what a version knows

abbrev pub names : List Key → List (List ℕ)
names keys = map name_of keys

-- of the root, where version 3 has two keys of its own
abbrev pub root_keys : ℕ → List (List ℕ)
root_keys version =
    names (key.Version ∷ key.Frames ∷ key.Swap ∷ key.Overhead ∷ key.Tax ∷ key.Percent ∷ key.PageRate ∷ [])
    ++ ((if version == 3 then names (key.Rebalance ∷ key.Page ∷ []) else [])
    ++ names (key.Quantum ∷ key.Epochs ∷ key.Guests ∷ key.Commands ∷ []))

-- of a guest
abbrev pub guest_keys : ℕ → List (List ℕ)
guest_keys version =
    names (key.Name ∷ key.Size ∷ key.Min ∷ key.Shares ∷ key.Samples ∷ key.Period ∷ key.Rate ∷ key.Seed ∷ key.Stream ∷ key.Autostart ∷ [])
    ++ ((if version == 1 then [] else (if version == 2 then names (key.Tell ∷ []) else names (key.Tell ∷ key.Driver ∷ [])))
    ++ names (key.Trace ∷ []))

abbrev pub known_keys : ℕ → Part → List (List ℕ)
known_keys version Root = root_keys version
known_keys version (Guest number) = guest_keys version
known_keys version (Command number) = names (key.At ∷ key.Line ∷ [])

-- ---- what is told

abbrev pub part_words : Part → List ℕ
part_words Root = codes "the root"
part_words (Guest number) = codes "a guest"
part_words (Command number) = codes "a command"

-- a key is written as a JSON string has it
abbrev pub odd_place : Part → List ℕ → List ℕ
odd_place Root k = codes "key " ++ quoted k
odd_place (Guest number) k = codes "guest " ++ (decimal number ++ (codes ", key " ++ quoted k))
odd_place (Command number) k = codes "command " ++ (decimal number ++ (codes ", key " ++ quoted k))

abbrev pub unknown_line : Part → List ℕ → Option (List ℕ) → List ℕ
unknown_line part k None = odd_place part k ++ (codes ": no key of " ++ part_words part)
unknown_line part k (Some near) = odd_place part k ++ (codes ": no key of " ++ (part_words part ++ (codes ", nearest is " ++ quoted near)))

abbrev pub odd_line : Part → Odd → List ℕ
odd_line part (unknown k nearest) = unknown_line part k nearest
odd_line part (twice k) = odd_place part k ++ codes ": stands twice"

-- of an object, in the order of its keys
abbrev pub odd_in : ℕ → Part → Json → List (List ℕ)
odd_in version part j = map (odd_line part) (odd_keys (known_keys version part) (keys_in j))

-- of a part, if it is there
abbrev pub odd_lines : Part → Json → List (List ℕ)
odd_lines part j = option_map_or (odd_in (version_of j) part) (part_in part j) []
