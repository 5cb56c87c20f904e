-- The data that a borrowed value stands for.
use Rattle.std.specs.Prelude.{ℕ, ◌&&◌, List, map, Bool, true, false, Option, Some, None, option_and_then, is_some}
use Rattle.json.specs.Json as json
use Rattle.json.specs.Lex.{tokens}
use Rattle.vm_json.specs.declared.value.Value.{Value}
use Rattle.vm_json.specs.declared.find.Elements.{Elements}
use Rattle.vm_json.specs.declared.find.Elements.TheVariants.{Texts, Values}
use Rattle.vm_json.specs.Tree.{value_view}
use Rattle.serde_json.specs.Data.{Num, Data, null, boolean, number, string, array, object, Items, no_items, item, Members, no_members, put}
use Rattle.serde_json.specs.Find.{as_str}
use Rattle.serde_json.specs.Read.{number_of, max_depth}

-- `read` refuses a text with a number out of range, so what it gives has no `None` here
abbrev pub number_or_null : Option Num → Data
number_or_null None = null
number_or_null (Some n) = number n

-- The members go in one after another, so the last value of a key stays.
abbrev mutual
  pub data_of : json.Json → Data
  data_of json.null = null
  data_of (json.boolean b) = boolean b
  data_of (json.number s) = number_or_null (number_of s)
  data_of (json.string s) = string s
  data_of (json.array js) = array (items_data js)
  data_of (json.object ms) = object (members_data ms no_members)

  pub items_data : json.Items → Items
  items_data json.no_items = no_items
  items_data (json.item j js) = item (data_of j) (items_data js)

  pub members_data : json.Members → Members → Members
  members_data json.no_members found = found
  members_data (json.member k j ms) found = members_data ms (put k (data_of j) found)

abbrev pub view : Value → Data
view v = data_of (value_view v)

-- the items of an array, however they are kept
abbrev pub items_seen : Elements → List Data
items_seen (Texts texts) = map (λ t. string t.now) texts.now
items_seen (Values values) = map view values.now

-- the first item of an array is a text
abbrev pub begins_with_text : Items → Bool
begins_with_text no_items = false
begins_with_text (item d ds) = is_some (as_str d)

-- ---- which texts are read: what the grammar takes, if each number in it has a value

-- the value that a text is, with numbers of any size
abbrev pub json_of : List ℕ → Option json.Json
json_of text = option_and_then (λ p. json.if_last p.0 p.1) (json.value max_depth (tokens text))

abbrev mutual
  pub is_readable : json.Json → Bool
  is_readable json.null = true
  is_readable (json.boolean b) = true
  is_readable (json.number s) = is_some (number_of s)
  is_readable (json.string s) = true
  is_readable (json.array js) = are_readable js
  is_readable (json.object ms) = are_members_readable ms

  pub are_readable : json.Items → Bool
  are_readable json.no_items = true
  are_readable (json.item j js) = is_readable j && are_readable js

  pub are_members_readable : json.Members → Bool
  are_members_readable json.no_members = true
  are_members_readable (json.member k j ms) = is_readable j && are_members_readable ms
