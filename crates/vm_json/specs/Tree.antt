-- The JSON value that a `Value` stands for.
use Rattle.std.specs.Prelude.{ℕ, ◌++◌, List, Option, map}
use Rattle.std.specs.Borrow.{Bor}
use Rattle.json.specs.Token.{Token}
use Rattle.json.specs.Json.{Json, null, boolean, number, string, array, object, Items, Members, parse_map}
use Rattle.json.specs.Value.{items_of, members_of}
use Rattle.vm_json.specs.declared.value.Value.{Value, fold-Value}
use Rattle.vm_json.specs.declared.value.Value.TheOpen.{Value-F}

-- texts, each as a value
abbrev pub texts_view : List (Bor (List ℕ)) → List Json
texts_view texts = map (λ t. string t.now) texts

-- one level, with each value inside already seen as its `Json`
abbrev pub view_step : Value-F Json → Json
view_step Value-F.Null = null
view_step (Value-F.Bool b) = boolean b
view_step (Value-F.Number s) = number s.now
view_step (Value-F.Text s) = string s.now
view_step (Value-F.Texts v) = array (items_of (texts_view v.items))
view_step (Value-F.Array v) = array (items_of v.items)
view_step (Value-F.Object v) = object (members_of v.items)

abbrev pub value_view : Value → Json
value_view = fold-Value Json view_step

abbrev pub items_view : List Value → Items
items_view vs = items_of (map value_view vs)

abbrev pub members_view : List (Bor (List ℕ) × Value) → Members
members_view ms = members_of (map (λ m. (m.0, value_view m.1)) ms)

-- all items of an array: texts, and then values
abbrev pub gathered : List (Bor (List ℕ)) → List Value → List Json
gathered texts values = texts_view texts ++ map value_view values

-- the array of the items that a reader gives
abbrev pub array_at : Option (Items × List Token) → Option (Json × List Token)
array_at found = parse_map array found
