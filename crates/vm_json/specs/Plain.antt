-- What the reader of plain texts finds at the front of a text, up to what is left of it.
use Rattle.std.specs.Prelude.{◌≡◌, ℕ, ◌≤◌, ◌++◌, List, drop, length, map, Bool, not, true, false, Option, Some, IfSome}
use Rattle.json.specs.Token.{Token}
use Rattle.json.specs.Word.{ends_word, is_space}
use Rattle.json.specs.Lex.{between, lex, Place, fresh, after_value, may_begin, begins_colon, punctuate}
use Rattle.json.specs.Json.{Json, Members, items, members, value}
use Rattle.vm_json.specs.Tree.{array_at}

-- the tokens of a text, from that place on
abbrev pub tokens_at : Place → List ℕ → List Token
tokens_at place text = punctuate place (lex between text)

-- wherever a value may begin, j comes, unless it is a key, and then what is left, behind a value
abbrev pub GivesValue : ℕ → List ℕ → Json → List ℕ → Type 0
GivesValue depth text j left =
    (place : Place) → may_begin place ≡ true → begins_colon (lex between left) ≡ false → value depth (tokens_at place text) ≡ Some (j, tokens_at after_value left)

-- the same, of an array behind its bracket
abbrev pub GivesArray : ℕ → List ℕ → Json → List ℕ → Type 0
GivesArray depth text j left = array_at (items (value depth) (length (tokens_at fresh text)) (tokens_at fresh text)) ≡ Some (j, tokens_at after_value left)

-- and of the members behind an object's brace
abbrev pub GivesMembers : ℕ → List ℕ → Members → List ℕ → Type 0
GivesMembers depth text ms left = members (value depth) (length (tokens_at fresh text)) (tokens_at fresh text) ≡ Some (ms, tokens_at after_value left)

-- wherever a value may begin, these texts come first, and what is left begins where a value may begin
abbrev pub GivesTexts : List ℕ → List (List ℕ) → List ℕ → Type 0
GivesTexts text found left =
    (place : Place) → may_begin place ≡ true → (next : Place) × (may_begin next ≡ true) × (tokens_at place text ≡ map Token.string found ++ tokens_at next left)

-- the word is that value, wherever a value may begin and a word ends behind it
abbrev pub Spells : List ℕ → Json → Type 0
Spells word j = (depth : ℕ) (rest : List ℕ) → ends_word rest ≡ true → GivesValue depth (word ++ rest) j rest

-- where a part of a number ends at that place, what follows it begins there
abbrev pub Leaves : List ℕ → Option ℕ → Option (List ℕ) → Type 0
Leaves bytes end rest = IfSome end (λ e. (rest ≡ Some (drop e bytes)) × (e ≤ length bytes))

-- the byte may not stand between two lexemes
abbrev pub is_no_space : ℕ → Bool
is_no_space x = not (is_space x)
