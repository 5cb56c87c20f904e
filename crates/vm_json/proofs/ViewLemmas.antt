-- The data of a value, beside what `serde_json` reads and finds.
use Rattle.std.proofs.Common.{◌≡◌, ℕ, List, zero, suc, ◌<◌, length, drop, get_or, map, [], ◌∷◌, ◌++◌, Bool, true, false, true≢false, cond, arith, Option, Some, None, option_map, option_and_then, Vec, refl, sym, ap, ◌∙◌}
use Rattle.std.specs.declared.alloc.Global.{Global}
use Rattle.std.proofs.lemmas.Option.{slice_get-map}
use Rattle.std.specs.Prelude.{◌&&◌, is_some, slice_get}
use Rattle.std.specs.Str.{bytes_eq}
use Rattle.std.proofs.lemmas.Slice.Eq.{bytes_eq-Decides}
use Rattle.std.specs.Borrow.{Bor}
use Rattle.json.specs.Json as json
use Rattle.vm_json.specs.Tree.{texts_view, value_view, items_view, members_view}
use Rattle.json.specs.Value.{items_of as tree_items_of}
use Rattle.vm_json.proofs.TreeLemmas.{get_member-push, view-Texts}
use Rattle.vm_json.specs.declared.value.Value.{Value, Texts}
use Rattle.json.specs.Find as found
use Rattle.serde_json.specs.Data.{Num, Data, number, string, array, object, Items, item, Members, no_members, put}
use Rattle.serde_json.specs.Find.{as_str, get, get_member}
use Rattle.serde_json.specs.Read.{of_json, of_items, of_members, number_of, read as read_text}
use Rattle.serde_json.proofs.Views.{get_member-put, get_member-put_other}
use Rattle.serde_json.specs.View.{items_of as data_items_of}
use Rattle.vm_json.specs.View.{begins_with_text, json_of, is_readable, are_readable, are_members_readable, view, data_of, items_data, members_data, number_or_null}

abbrev pub only_if : {A : Type 0} → Bool → A → Option A
only_if true a = Some a
only_if false a = None

of_number : (r : Option Num) → option_map number r ≡ only_if (is_some r) (number_or_null r)
of_number None = refl
of_number (Some n) = refl

only_if-map : {A B : Type 0} (f : A → B) (b : Bool) (a : A) → option_map f (only_if b a) ≡ only_if b (f a)
only_if-map f true a = refl
only_if-map f false a = refl

both : (a b : Bool) (d : Data) (ds : Items) → option_and_then (λ e. option_map (item e) (only_if b ds)) (only_if a d) ≡ only_if (a && b) (item d ds)
both true b d ds = only_if-map (item d) b ds
both false b d ds = refl

both_members : (a b : Bool) (d : Data) (f : Data → Option Members) (ms : Members) → f d ≡ only_if b ms → option_and_then f (only_if a d) ≡ only_if (a && b) ms
both_members true b d f ms e = e
both_members false b d f ms e = refl

-- what is read of a value: its data, where each number has a value
mutual
  pub of_json_is : (j : json.Json) → of_json j ≡ only_if (is_readable j) (data_of j)
  of_json_is json.null = refl
  of_json_is (json.boolean b) = refl
  of_json_is (json.number s) = of_number (number_of s)
  of_json_is (json.string s) = refl
  of_json_is (json.array js) = ap (option_map array) (of_items_is js) ∙ only_if-map array (are_readable js) (items_data js)
  of_json_is (json.object ms) = ap (option_map object) (of_members_is ms no_members) ∙ only_if-map object (are_members_readable ms) (members_data ms no_members)

  of_items_is : (js : json.Items) → of_items js ≡ only_if (are_readable js) (items_data js)
  of_items_is json.no_items = refl
  of_items_is (json.item j js) = rw (of_json_is j, of_items_is js) (both (is_readable j) (are_readable js) (data_of j) (items_data js))

  of_members_is : (ms : json.Members) (found : Members) → of_members ms found ≡ only_if (are_members_readable ms) (members_data ms found)
  of_members_is json.no_members found = refl
  of_members_is (json.member k j ms) found =
      ap (option_and_then (λ d. of_members ms (put k d found))) (of_json_is j)
      ∙ both_members (is_readable j) (are_members_readable ms) (data_of j) (λ d. of_members ms (put k d found)) (members_data ms (put k (data_of j) found)) (of_members_is ms (put k (data_of j) found))

pub read_where : (j : json.Json) → is_readable j ≡ true → of_json j ≡ Some (data_of j)
read_where j e = of_json_is j ∙ ap (λ b. only_if b (data_of j)) e

pub refused_where : (j : json.Json) → is_readable j ≡ false → of_json j ≡ None
refused_where j e = of_json_is j ∙ ap (λ b. only_if b (data_of j)) e

pub whole_where : (text : List ℕ) (j : json.Json) → json_of text ≡ Some j → is_readable j ≡ true → read_text text ≡ Some (data_of j)
whole_where text j e readable = ap (option_and_then of_json) e ∙ read_where j readable

pub none_where : (text : List ℕ) (j : json.Json) → json_of text ≡ Some j → is_readable j ≡ false → read_text text ≡ None
none_where text j e unreadable = ap (option_and_then of_json) e ∙ refused_where j unreadable

-- ---- a member, found by its name

abbrev or_earlier : Option Data → Option Data → Option Data
or_earlier None earlier = earlier
or_earlier (Some d) earlier = Some d

here_or : (q k : List ℕ) (j : json.Json) (before : Members) (b : Bool) → bytes_eq k q ≡ b
    → get_member q (put k (data_of j) before) ≡ or_earlier (option_map data_of (cond b (Some j) None)) (get_member q before)
here_or q k j before true e = ap (λ n. get_member n (put k (data_of j) before)) (sym ((bytes_eq-Decides k q).0 e)) ∙ get_member-put k (data_of j) before
here_or q k j before false e = get_member-put_other q k (data_of j) before (λ same. true≢false (sym ((bytes_eq-Decides k q).1 (sym same)) ∙ e))

later : (r o : Option json.Json) (x : Option Data) → or_earlier (option_map data_of r) (or_earlier (option_map data_of o) x) ≡ or_earlier (option_map data_of (found.later_or r o)) x
later None o x = refl
later (Some j) o x = refl

members_found : (q : List ℕ) (ms : json.Members) (before : Members) → get_member q (members_data ms before) ≡ or_earlier (option_map data_of (found.get_member q ms)) (get_member q before)
members_found q json.no_members before = refl
members_found q (json.member k j ms) before =
    members_found q ms (put k (data_of j) before)
    ∙ ap (or_earlier (option_map data_of (found.get_member q ms))) (here_or q k j before (bytes_eq k q) refl)
    ∙ later (found.get_member q ms) (cond (bytes_eq k q) (Some j) None) (get_member q before)

or_none : (r : Option Data) → or_earlier r None ≡ r
or_none None = refl
or_none (Some d) = refl

in_number : (q : List ℕ) (r : Option Num) → get q (number_or_null r) ≡ None
in_number q None = refl
in_number q (Some n) = refl

pub get_is : (q : List ℕ) (j : json.Json) → get q (data_of j) ≡ option_map data_of (found.get q j)
get_is q json.null = refl
get_is q (json.boolean b) = refl
get_is q (json.number s) = in_number q (number_of s)
get_is q (json.string s) = refl
get_is q (json.array js) = refl
get_is q (json.object ms) = members_found q ms no_members ∙ or_none (option_map data_of (found.get_member q ms))

-- ---- lists of values

pub found_in : (q : List ℕ) (j : json.Json) (r : Option (Value)) → option_map value_view r ≡ found.get q j → option_map view r ≡ get q (data_of j)
found_in q j None e = ap (option_map data_of) e ∙ sym (get_is q j)
found_in q j (Some v) e = ap (option_map data_of) e ∙ sym (get_is q j)

pub found_at : (q : List ℕ) (j : json.Json) (r : Option (Bor (Value))) → option_map (λ v. value_view v.now) r ≡ found.get q j → option_map (λ v. view v.now) r ≡ get q (data_of j)
found_at q j None e = ap (option_map data_of) e ∙ sym (get_is q j)
found_at q j (Some v) e = ap (option_map data_of) e ∙ sym (get_is q j)

pub items_seen : (vs : List (Value)) → data_items_of (map view vs) ≡ items_data (items_view vs)
items_seen [] = refl
items_seen (v ∷ vs) = ap (item (view v)) (items_seen vs)

pub items_from : (vs : List (Value)) (i : ℕ) (d : Value) → i < length vs
    → are_readable (items_view (drop i vs)) ≡ is_readable (value_view (get_or vs i d)) && are_readable (items_view (drop (suc i) vs))
items_from [] i d h = absurd (omega arith)
items_from (v ∷ vs) zero d h = refl
items_from (v ∷ vs) (suc i) d h = items_from vs i d (omega arith)

pub members_from : (ms : List (Bor (List ℕ) × Value)) (i : ℕ) (d : Bor (List ℕ) × Value) → i < length ms
    → are_members_readable (members_view (drop i ms)) ≡ is_readable (value_view (get_or ms i d).1) && are_members_readable (members_view (drop (suc i) ms))
members_from [] i d h = absurd (omega arith)
members_from (m ∷ ms) zero d h = refl
members_from (m ∷ ms) (suc i) d h = members_from ms i d (omega arith)

-- the last of the members, which `pop` takes
pub popped : (q : List ℕ) (ms left : List (Bor (List ℕ) × Value)) (m : Bor (List ℕ) × Value) (b : Bool) → ms ≡ left ++ m ∷ [] → bytes_eq m.0.now q ≡ b
    → found.get_member q (members_view ms) ≡ cond b (Some (value_view m.1)) (found.get_member q (members_view left))
popped q ms left m b e same = ap (λ xs. found.get_member q (members_view xs)) e ∙ get_member-push q left m ∙ ap (λ x. cond x (Some (value_view m.1)) (found.get_member q (members_view left))) same

-- texts have no numbers
texts_readable : (ts : List (Bor (List ℕ))) → are_readable (tree_items_of (texts_view ts)) ≡ true
texts_readable [] = refl
texts_readable (t ∷ ts) = texts_readable ts

pub readable_texts : (v : Vec (Bor (List ℕ)) Global) → is_readable (value_view (Texts v)) ≡ true
readable_texts v = ap is_readable (view-Texts v) ∙ texts_readable v.items

pub texts_seen : (ts : List (Bor (List ℕ))) → data_items_of (map (λ t. string t.now) ts) ≡ items_data (tree_items_of (texts_view ts))
texts_seen [] = refl
texts_seen (t ∷ ts) = ap (item (string t.now)) (texts_seen ts)

-- texts begin with a text
pub text_first : (ts : List (Bor (List ℕ))) → (length ts ≡ 0 → ⊥) → begins_with_text (items_data (tree_items_of (texts_view ts))) ≡ true
text_first [] some = absurd (some refl)
text_first (t ∷ ts) some = refl

same_text : (found : Option (Bor (List ℕ))) → option_map (λ t. t.now) found ≡ option_and_then as_str (option_map (λ t. string t.now) found)
same_text None = refl
same_text (Some t) = refl

-- a text at a place is the item there
pub text_at_place : (ts : List (Bor (List ℕ))) (place : ℕ) → slice_get (map (λ t. t.now) ts) place ≡ option_and_then as_str (slice_get (map (λ t. string t.now) ts) place)
text_at_place ts place =
    slice_get-map (λ t. t.now) ts place ∙ same_text (slice_get ts place) ∙ ap (option_and_then as_str) (sym (slice_get-map (λ t. string t.now) ts place))
