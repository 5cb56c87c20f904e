-- The keys of an object, in the order of its text; a key that comes twice stands there twice.
use Rattle.std.specs.Prelude.{ℕ, List, [], ◌∷◌}
use Rattle.json.specs.Json.{Json, null, boolean, number, string, array, object, Members, no_members, member}

abbrev pub keys_of : Members → List (List ℕ)
keys_of no_members = []
keys_of (member key value rest) = key ∷ keys_of rest

-- a value that is no object has none
abbrev pub keys_in : Json → List (List ℕ)
keys_in null = []
keys_in (boolean b) = []
keys_in (number s) = []
keys_in (string s) = []
keys_in (array items) = []
keys_in (object members) = keys_of members
