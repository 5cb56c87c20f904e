-- From the lexemes at the front of a text to the values, items and members that it gives.
use Rattle.std.proofs.Common.{◌≡◌, ℕ, ◌-◌, ◌<◌, ◌≤◌, Bool, true, false, List, [], ◌∷◌, ◌++◌, map, length, Option, Some, None, refl, sym, subst, ap, ◌∙◌, arith}
use Rattle.std.proofs.lemmas.Bool.{false≢true}
use Rattle.std.proofs.lemmas.List.{append_assoc, map_push}
use Rattle.std.specs.Borrow.{Bor}
use Rattle.json.specs.Ascii.{false_text, null_text, true_text}
use Rattle.json.specs.Json.{Json, array, object, Items, no_items, item, Members, no_members, parse_map, after_end_array, read_key, items, members, value}
use Rattle.json.specs.Lex.{Lexeme, token, comma, colon, between, lex, Place, fresh, after_value, after_comma, after_key, place_token, may_begin, begins_colon, punctuate, tokens}
use Rattle.json.specs.Token.{Token}
use Rattle.json.specs.Value.{items_of}
use Rattle.json.proofs.Grammar.{left as after_of, value_is, value-begin_array, value-begin_object, skip_value-shorter, items_end, items_more, members_end, members_more, read_key-shorter}
use Rattle.vm_json.specs.Plain.{tokens_at, GivesValue, GivesArray, GivesMembers, GivesTexts, Spells}
use Rattle.vm_json.specs.Tree.{array_at, members_view, value_view}
use Rattle.vm_json.specs.declared.value.Value.{Value}
use Rattle.vm_json.proofs.LexemeLemmas.{lex-false, lex-null, lex-true}
use Rattle.vm_json.proofs.TreeLemmas.{items_before, members_before, items_before-no_items, members_before-no_members, none_before, one_more_item, one_more_member}

-- ---- a token at each place where a value may begin

no_place : {P : Type 0} → false ≡ true → P
no_place e = absurd (false≢true e)

at_text : (place : Place) (s : List ℕ) (rest : List Lexeme) → may_begin place ≡ true → begins_colon rest ≡ false → punctuate place (token (Token.string s) ∷ rest) ≡ Token.string s ∷ punctuate after_value rest
unfolding punctuate
at_text fresh s rest may plain = ap (λ b. place_token fresh (Token.string s) b (λ next. punctuate next rest)) plain
at_text after_comma s rest may plain = ap (λ b. place_token after_comma (Token.string s) b (λ next. punctuate next rest)) plain
at_text after_value s rest may plain = no_place may
at_text after_key s rest may plain = no_place may

at_key : (place : Place) (s : List ℕ) (rest : List Lexeme) → may_begin place ≡ true → punctuate place (token (Token.string s) ∷ colon ∷ rest) ≡ Token.key s ∷ punctuate fresh rest
unfolding punctuate
at_key fresh s rest may = refl
at_key after_comma s rest may = refl
at_key after_value s rest may = no_place may
at_key after_key s rest may = no_place may

at_number : (place : Place) (s : List ℕ) (rest : List Lexeme) → may_begin place ≡ true → punctuate place (token (Token.number s) ∷ rest) ≡ Token.number s ∷ punctuate after_value rest
unfolding punctuate
at_number fresh s rest may = refl
at_number after_comma s rest may = refl
at_number after_value s rest may = no_place may
at_number after_key s rest may = no_place may

at_boolean : (place : Place) (b : Bool) (rest : List Lexeme) → may_begin place ≡ true → punctuate place (token (Token.boolean b) ∷ rest) ≡ Token.boolean b ∷ punctuate after_value rest
unfolding punctuate
at_boolean fresh b rest may = refl
at_boolean after_comma b rest may = refl
at_boolean after_value b rest may = no_place may
at_boolean after_key b rest may = no_place may

at_null : (place : Place) (rest : List Lexeme) → may_begin place ≡ true → punctuate place (token Token.null ∷ rest) ≡ Token.null ∷ punctuate after_value rest
unfolding punctuate
at_null fresh rest may = refl
at_null after_comma rest may = refl
at_null after_value rest may = no_place may
at_null after_key rest may = no_place may

at_array : (place : Place) (rest : List Lexeme) → may_begin place ≡ true → punctuate place (token Token.begin_array ∷ rest) ≡ Token.begin_array ∷ punctuate fresh rest
unfolding punctuate
at_array fresh rest may = refl
at_array after_comma rest may = refl
at_array after_value rest may = no_place may
at_array after_key rest may = no_place may

at_object : (place : Place) (rest : List Lexeme) → may_begin place ≡ true → punctuate place (token Token.begin_object ∷ rest) ≡ Token.begin_object ∷ punctuate fresh rest
unfolding punctuate
at_object fresh rest may = refl
at_object after_comma rest may = refl
at_object after_value rest may = no_place may
at_object after_key rest may = no_place may

-- ---- what may follow a value

ends_array : (rest : List Lexeme) → punctuate after_value (token Token.end_array ∷ rest) ≡ Token.end_array ∷ punctuate after_value rest
unfolding punctuate
ends_array rest = refl

ends_no_items : (rest : List Lexeme) → punctuate fresh (token Token.end_array ∷ rest) ≡ Token.end_array ∷ punctuate after_value rest
unfolding punctuate
ends_no_items rest = refl

ends_object : (rest : List Lexeme) → punctuate after_value (token Token.end_object ∷ rest) ≡ Token.end_object ∷ punctuate after_value rest
unfolding punctuate
ends_object rest = refl

ends_no_members : (rest : List Lexeme) → punctuate fresh (token Token.end_object ∷ rest) ≡ Token.end_object ∷ punctuate after_value rest
unfolding punctuate
ends_no_members rest = refl

goes_on : (rest : List Lexeme) → punctuate after_value (comma ∷ rest) ≡ punctuate after_comma rest
unfolding punctuate
goes_on rest = refl

nothing_left : punctuate after_value [] ≡ []
unfolding punctuate
nothing_left = refl

-- ---- values

pub text_given : (depth : ℕ) (text s left : List ℕ) → lex between text ≡ token (Token.string s) ∷ lex between left → GivesValue depth text (Json.string s) left
text_given depth text s left is place may plain = ap (λ ls. value depth (punctuate place ls)) is ∙ ap (value depth) (at_text place s (lex between left) may plain) ∙ value_is depth _

pub number_given : (depth : ℕ) (text s left : List ℕ) → lex between text ≡ token (Token.number s) ∷ lex between left → GivesValue depth text (Json.number s) left
number_given depth text s left is place may plain = ap (λ ls. value depth (punctuate place ls)) is ∙ ap (value depth) (at_number place s (lex between left) may) ∙ value_is depth _

pub boolean_given : (depth : ℕ) (text : List ℕ) (b : Bool) (left : List ℕ) → lex between text ≡ token (Token.boolean b) ∷ lex between left → GivesValue depth text (Json.boolean b) left
boolean_given depth text b left is place may plain = ap (λ ls. value depth (punctuate place ls)) is ∙ ap (value depth) (at_boolean place b (lex between left) may) ∙ value_is depth _

pub null_given : (depth : ℕ) (text left : List ℕ) → lex between text ≡ token Token.null ∷ lex between left → GivesValue depth text Json.null left
null_given depth text left is place may plain = ap (λ ls. value depth (punctuate place ls)) is ∙ ap (value depth) (at_null place (lex between left) may) ∙ value_is depth _

-- what is left may begin with blanks, or not
pub blanks_passed : (depth : ℕ) (text : List ℕ) (j : Json) (behind left : List ℕ) → lex between left ≡ lex between behind → GivesValue depth text j behind → GivesValue depth text j left
blanks_passed depth text j behind left same gives place may plain = gives place may (sym (ap begins_colon same) ∙ plain) ∙ ap (λ ls. Some (j, punctuate after_value ls)) (sym same)

pub array_given : (depth : ℕ) (text inside left : List ℕ) (j : Json) → 0 < depth → lex between text ≡ token Token.begin_array ∷ lex between inside → GivesArray (depth - 1) inside j left → GivesValue depth text j left
array_given depth text inside left j some is found place may plain =
    ap (λ ls. value depth (punctuate place ls)) is ∙ ap (value depth) (at_array place (lex between inside) may) ∙ value-begin_array depth (tokens_at fresh inside) some ∙ found

pub object_given : (depth : ℕ) (text inside left : List ℕ) (ms : Members) → 0 < depth → lex between text ≡ token Token.begin_object ∷ lex between inside → GivesMembers (depth - 1) inside ms left → GivesValue depth text (object ms) left
object_given depth text inside left ms some is found place may plain =
    ap (λ ls. value depth (punctuate place ls)) is ∙ ap (value depth) (at_object place (lex between inside) may) ∙ value-begin_object depth (tokens_at fresh inside) some ∙ ap (parse_map object) found

pub true_spelled : (s : List ℕ) → s ≡ true_text → Spells s (Json.boolean true)
true_spelled s is depth rest ended = boolean_given depth (s ++ rest) true rest (ap (λ w. lex between (w ++ rest)) is ∙ lex-true rest ended)

pub false_spelled : (s : List ℕ) → s ≡ false_text → Spells s (Json.boolean false)
false_spelled s is depth rest ended = boolean_given depth (s ++ rest) false rest (ap (λ w. lex between (w ++ rest)) is ∙ lex-false rest ended)

pub null_spelled : (s : List ℕ) → s ≡ null_text → Spells s Json.null
null_spelled s is depth rest ended = null_given depth (s ++ rest) rest (ap (λ w. lex between (w ++ rest)) is ∙ lex-null rest ended)

-- a value up to the end is the whole text's
pub whole_given : (depth : ℕ) (text left : List ℕ) (j : Json) → GivesValue depth text j left → lex between left ≡ [] → value depth (tokens text) ≡ Some (j, [])
whole_given depth text left j gives none = gives fresh refl (ap begins_colon none) ∙ ap (λ ls. Some (j, punctuate after_value ls)) none ∙ ap (λ ts. Some (j, ts)) nothing_left

-- ---- items

abbrev IsNone : {A : Type 0} → Option A → Type 0
IsNone None = Unit {0}
IsNone (Some a) = ⊥

-- a value is no bracket that closes
found_no_end : (depth : ℕ) (ts : List Token) (j : Json) (rest : List Token) → value depth ts ≡ Some (j, rest) → after_end_array ts ≡ None
found_no_end depth [] j rest e = refl
found_no_end depth (Token.begin_object ∷ ts) j rest e = refl
found_no_end depth (Token.end_object ∷ ts) j rest e = refl
found_no_end depth (Token.begin_array ∷ ts) j rest e = refl
found_no_end depth (Token.end_array ∷ ts) j rest e = absurd (subst IsNone (sym (value_is depth _) ∙ e) tt)
found_no_end depth (Token.key s ∷ ts) j rest e = refl
found_no_end depth (Token.string s ∷ ts) j rest e = refl
found_no_end depth (Token.number s ∷ ts) j rest e = refl
found_no_end depth (Token.boolean b ∷ ts) j rest e = refl
found_no_end depth (Token.null ∷ ts) j rest e = refl
found_no_end depth (Token.bad ∷ ts) j rest e = refl

-- `before` are the first items of the array, and what is left begins where the next may begin
abbrev pub HasItems : ℕ → List ℕ → List Json → List ℕ → Type 0
HasItems depth text before left =
    (n : ℕ) × (place : Place) × (may_begin place ≡ true) × (length (tokens_at place left) ≤ n)
    × (items (value depth) (length (tokens_at fresh text)) (tokens_at fresh text) ≡ parse_map (items_before before) (items (value depth) n (tokens_at place left)))

item_in_front : (j : Json) (js : List Json) (r : Option (Items × List Token)) → parse_map (item j) (parse_map (items_before js) r) ≡ parse_map (items_before (j ∷ js)) r
item_in_front j js None = refl
item_in_front j js (Some p) = refl

texts_in_front : (depth n : ℕ) (found : List (List ℕ)) (ts : List Token) → length (map Token.string found ++ ts) ≤ n
    → (m : ℕ) × (length ts ≤ m) × (items (value depth) n (map Token.string found ++ ts) ≡ parse_map (items_before (map Json.string found)) (items (value depth) m ts))
texts_in_front depth n [] ts enough = (n, enough, none_before _)
texts_in_front depth n (s ∷ found) ts enough =
    let rest = texts_in_front depth (n - 1) found ts (omega (arith, enough)) in (
      rest.0,
      rest.1,
      items_more (value depth) n (Token.string s ∷ (map Token.string found ++ ts)) _ (Json.string s) (omega (arith, enough)) refl (value_is depth _)
          ∙ ap (parse_map (item (Json.string s))) rest.2 ∙ item_in_front (Json.string s) (map Json.string found) _,
    )

pub texts_begin : (depth : ℕ) (text : List ℕ) (found : List (List ℕ)) (left : List ℕ) → GivesTexts text found left → HasItems depth text (map Json.string found) left
texts_begin depth text found left gives =
    let next = gives fresh refl in
    let ts = tokens_at fresh text in
    let longer = ap length next.2 in
    let rest = texts_in_front depth (length ts) found (tokens_at next.0 left) (omega (arith, longer)) in
    (rest.0, next.0, next.1, rest.1, ap (items (value depth) (length ts)) next.2 ∙ rest.2)

-- one item more, with the comma behind it
pub item_added : (depth : ℕ) (text : List ℕ) (before : List Json) (left : List ℕ) (j : Json) (next behind : List ℕ) (after : List Json)
    → HasItems depth text before left → GivesValue depth left j next → lex between next ≡ comma ∷ lex between behind → after ≡ before ++ j ∷ [] → HasItems depth text after behind
item_added depth text before left j next behind after has gives is added =
    let n = has.0 in
    let ts = tokens_at has.1 left in
    let rest = tokens_at after_comma behind in
    let read : value depth ts ≡ Some (j, rest) = gives has.1 has.2 (ap begins_colon is) ∙ ap (λ ls. Some (j, punctuate after_value ls)) is ∙ ap (λ l. Some (j, l)) (goes_on (lex between behind)) in
    let less : length rest < length ts = skip_value-shorter depth ts rest (ap after_of read) in
    let turn = items_more (value depth) n ts rest j (omega (arith, has.3, less)) (found_no_end depth ts j rest read) read in (
      n - 1,
      after_comma,
      refl,
      omega (arith, has.3, less),
      has.4 ∙ ap (parse_map (items_before before)) turn ∙ one_more_item before j _ ∙ ap (λ js. parse_map (items_before js) (items (value depth) (n - 1) rest)) (sym added),
    )

-- the last item, with the bracket behind it
pub items_ended : (depth : ℕ) (text : List ℕ) (before : List Json) (left : List ℕ) (j : Json) (next behind : List ℕ) (after : List Json)
    → HasItems depth text before left → GivesValue depth left j next → lex between next ≡ token Token.end_array ∷ lex between behind → after ≡ before ++ j ∷ [] → GivesArray depth text (array (items_of after)) behind
items_ended depth text before left j next behind after has gives is added =
    let n = has.0 in
    let ts = tokens_at has.1 left in
    let rest = tokens_at after_value behind in
    let closing = Token.end_array ∷ rest in
    let read : value depth ts ≡ Some (j, closing) = gives has.1 has.2 (ap begins_colon is) ∙ ap (λ ls. Some (j, punctuate after_value ls)) is ∙ ap (λ l. Some (j, l)) (ends_array (lex between behind)) in
    let less : length closing < length ts = skip_value-shorter depth ts closing (ap after_of read) in
    let turn = items_more (value depth) n ts closing j (omega (arith, has.3, less)) (found_no_end depth ts j closing read) read in
    let last = items_end (value depth) (n - 1) closing rest (omega (arith, has.3, less)) refl in
    ap array_at (has.4 ∙ ap (parse_map (items_before before)) (turn ∙ ap (parse_map (item j)) last) ∙ one_more_item before j (Some (no_items, rest)) ∙ ap (λ js. Some (js, rest)) (items_before-no_items (before ++ j ∷ [])))
    ∙ ap (λ js. Some (array (items_of js), rest)) (sym added)

pub no_items_given : (depth : ℕ) (text left : List ℕ) → lex between text ≡ token Token.end_array ∷ lex between left → GivesArray depth text (array no_items) left
no_items_given depth text left is =
    let first : tokens_at fresh text ≡ Token.end_array ∷ tokens_at after_value left = ap (punctuate fresh) is ∙ ends_no_items (lex between left) in
    ap array_at (items_end (value depth) (length (tokens_at fresh text)) (tokens_at fresh text) (tokens_at after_value left) (omega arith) (ap after_end_array first))

-- one text more, with the comma behind it
pub text_taken : (text : List ℕ) (found : List (List ℕ)) (left s next : List ℕ) → GivesTexts text found left → lex between left ≡ token (Token.string s) ∷ comma ∷ lex between next → GivesTexts text (found ++ s ∷ []) next
text_taken text found left s next gives is place may =
    let so_far = gives place may in
    let first : tokens_at so_far.0 left ≡ Token.string s ∷ tokens_at after_comma next =
    ap (punctuate so_far.0) is ∙ at_text so_far.0 s (comma ∷ lex between next) so_far.1 refl ∙ ap (λ ts. Token.string s ∷ ts) (goes_on (lex between next)) in (
      after_comma,
      refl,
      so_far.2 ∙ ap (λ ts. map Token.string found ++ ts) first ∙ sym (append_assoc (map Token.string found) (Token.string s ∷ []) _)
          ∙ ap (λ ts. ts ++ tokens_at after_comma next) (sym (map_push Token.string found s)),
    )

pub none_taken : (text : List ℕ) → GivesTexts text [] text
none_taken text place may = (place, may, refl)

-- ---- members

abbrev pub HasMembers : ℕ → List ℕ → List (Bor (List ℕ) × Value) → List ℕ → Type 0
HasMembers depth text before left =
    (n : ℕ) × (place : Place) × (may_begin place ≡ true) × (length (tokens_at place left) ≤ n)
    × (members (value depth) (length (tokens_at fresh text)) (tokens_at fresh text) ≡ parse_map (members_before before) (members (value depth) n (tokens_at place left)))

pub no_members_yet : (depth : ℕ) (text : List ℕ) → HasMembers depth text [] text
no_members_yet depth text = (length (tokens_at fresh text), fresh, refl, omega arith, none_before _)

-- one member, with what stands behind it
member_read : (depth : ℕ) (text : List ℕ) (before : List (Bor (List ℕ) × Value)) (left : List ℕ) (m : Bor (List ℕ) × Value) (inside next : List ℕ) (rest : List Token)
    → HasMembers depth text before left → lex between left ≡ token (Token.string m.0.now) ∷ colon ∷ lex between inside → GivesValue depth inside (value_view m.1) next
    → begins_colon (lex between next) ≡ false → tokens_at after_value next ≡ rest
    → (n : ℕ) × (length rest ≤ n) × (members (value depth) (length (tokens_at fresh text)) (tokens_at fresh text) ≡ parse_map (members_before (before ++ m ∷ [])) (members (value depth) n rest))
member_read depth text before left m inside next rest has is gives plain behind =
    let n = has.0 in
    let ts = tokens_at has.1 left in
    let s = tokens_at fresh inside in
    let first : ts ≡ Token.key m.0.now ∷ s = ap (punctuate has.1) is ∙ at_key has.1 m.0.now (lex between inside) has.2 in
    let key : read_key ts ≡ Some (Some m.0.now, s) = ap read_key first in
    let read : value depth s ≡ Some (value_view m.1, rest) = gives fresh refl plain ∙ ap (λ l. Some (value_view m.1, l)) behind in
    let shorter : length s < length ts = read_key-shorter ts (Some m.0.now) s key in
    let less : length rest < length s = skip_value-shorter depth s rest (ap after_of read) in
    let turn = members_more (value depth) n m.0.now ts s rest (value_view m.1) (omega (arith, has.3, shorter)) key read in
    (n - 1, omega (arith, has.3, shorter, less), has.4 ∙ ap (parse_map (members_before before)) turn ∙ one_more_member before m _)

pub member_added : (depth : ℕ) (text : List ℕ) (before : List (Bor (List ℕ) × Value)) (left : List ℕ) (m : Bor (List ℕ) × Value) (inside next behind : List ℕ) (after : List (Bor (List ℕ) × Value))
    → HasMembers depth text before left → lex between left ≡ token (Token.string m.0.now) ∷ colon ∷ lex between inside → GivesValue depth inside (value_view m.1) next
    → lex between next ≡ comma ∷ lex between behind → after ≡ before ++ m ∷ [] → HasMembers depth text after behind
member_added depth text before left m inside next behind after has is gives going added =
    let turn = member_read depth text before left m inside next (tokens_at after_comma behind) has is gives (ap begins_colon going) (ap (punctuate after_value) going ∙ goes_on (lex between behind)) in
    (turn.0, after_comma, refl, turn.1, turn.2 ∙ ap (λ ms. parse_map (members_before ms) (members (value depth) turn.0 (tokens_at after_comma behind))) (sym added))

pub members_ended : (depth : ℕ) (text : List ℕ) (before : List (Bor (List ℕ) × Value)) (left : List ℕ) (m : Bor (List ℕ) × Value) (inside next behind : List ℕ) (after : List (Bor (List ℕ) × Value))
    → HasMembers depth text before left → lex between left ≡ token (Token.string m.0.now) ∷ colon ∷ lex between inside → GivesValue depth inside (value_view m.1) next
    → lex between next ≡ token Token.end_object ∷ lex between behind → after ≡ before ++ m ∷ [] → GivesMembers depth text (members_view after) behind
members_ended depth text before left m inside next behind after has is gives ending added =
    let rest = tokens_at after_value behind in
    let closing = Token.end_object ∷ rest in
    let turn = member_read depth text before left m inside next closing has is gives (ap begins_colon ending) (ap (punctuate after_value) ending ∙ ends_object (lex between behind)) in
    let last = members_end (value depth) turn.0 closing rest turn.1 refl in
    turn.2 ∙ ap (parse_map (members_before (before ++ m ∷ []))) last ∙ ap (λ ms. Some (ms, rest)) (members_before-no_members (before ++ m ∷ [])) ∙ ap (λ ms. Some (members_view ms, rest)) (sym added)

pub no_members_given : (depth : ℕ) (text left : List ℕ) → lex between text ≡ token Token.end_object ∷ lex between left → GivesMembers depth text no_members left
no_members_given depth text left is =
    let first : tokens_at fresh text ≡ Token.end_object ∷ tokens_at after_value left = ap (punctuate fresh) is ∙ ends_no_members (lex between left) in
    members_end (value depth) (length (tokens_at fresh text)) (tokens_at fresh text) (tokens_at after_value left) (omega arith) (ap read_key first)
