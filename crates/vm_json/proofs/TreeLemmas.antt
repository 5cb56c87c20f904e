-- A tree, level by level, and lists that grow at their end.
use Rattle.std.proofs.Common.{◌≡◌, ℕ, Bool, true, false, cond, ◌∙◌, List, [], ◌∷◌, ◌++◌, Option, Some, None, refl, sym, ap, rules, Vec}
use Rattle.std.specs.Borrow.{Bor}
use Rattle.std.specs.declared.alloc.Global.{Global}
use Rattle.std.specs.Str.{bytes_eq}
use Rattle.json.specs.Find.{later_or, get_member}
use Rattle.json.specs.Json.{Json, array, object, Items, no_items, item, Members, no_members, member, parse_map}
use Rattle.json.specs.Token.{Token}
use Rattle.json.specs.Value.{items_of}
use Rattle.std.proofs.lemmas.List.{append_assoc, map_push}
use Rattle.vm_json.specs.Tree.{gathered, texts_view, items_view, members_view, value_view}
use Rattle.vm_json.specs.declared.value.Value.{Value, Texts, Array, Object, the_lemmas}

pub view-Texts : (v : Vec (Bor (List ℕ)) Global) → value_view (Texts v) ≡ array (items_of (texts_view v.items))
view-Texts v = search (rules, the_lemmas)

pub view-Array : (v : Vec Value Global) → value_view (Array v) ≡ array (items_view v.items)
view-Array v = search (rules, the_lemmas)

pub view-Object : (v : Vec (Bor (List ℕ) × Value) Global) → value_view (Object v) ≡ object (members_view v.items)
view-Object v = search (rules, the_lemmas)

-- items in front of others
abbrev pub items_before : List Json → Items → Items
items_before [] rest = rest
items_before (j ∷ js) rest = item j (items_before js rest)

abbrev pub members_before : List (Bor (List ℕ) × Value) → Members → Members
members_before [] rest = rest
members_before (m ∷ ms) rest = member m.0.now (value_view m.1) (members_before ms rest)

pub items_before-no_items : (js : List Json) → items_before js no_items ≡ items_of js
items_before-no_items [] = refl
items_before-no_items (j ∷ js) = ap (item j) (items_before-no_items js)

pub members_before-no_members : (ms : List (Bor (List ℕ) × Value)) → members_before ms no_members ≡ members_view ms
members_before-no_members [] = refl
members_before-no_members (m ∷ ms) = ap (member m.0.now (value_view m.1)) (members_before-no_members ms)

items_push : (js : List Json) (j : Json) (rest : Items) → items_before js (item j rest) ≡ items_before (js ++ j ∷ []) rest
items_push [] j rest = refl
items_push (i ∷ js) j rest = ap (item i) (items_push js j rest)

members_push : (ms : List (Bor (List ℕ) × Value)) (m : Bor (List ℕ) × Value) (rest : Members) → members_before ms (member m.0.now (value_view m.1) rest) ≡ members_before (ms ++ m ∷ []) rest
members_push [] m rest = refl
members_push (n ∷ ms) m rest = ap (member n.0.now (value_view n.1)) (members_push ms m rest)

pub one_more_item : (js : List Json) (j : Json) (r : Option (Items × List Token)) → parse_map (items_before js) (parse_map (item j) r) ≡ parse_map (items_before (js ++ j ∷ [])) r
one_more_item js j None = refl
one_more_item js j (Some p) = ap (λ is. Some (is, p.1)) (items_push js j p.0)

-- a value behind all items
pub gathered_push : (texts : List (Bor (List ℕ))) (values : List Value) (v : Value) (more : List Value) → more ≡ values ++ v ∷ [] → gathered texts more ≡ gathered texts values ++ value_view v ∷ []
gathered_push texts values v more pushed =
    ap (gathered texts) pushed ∙ ap (λ vs. texts_view texts ++ vs) (map_push value_view values v) ∙ sym (append_assoc (texts_view texts) _ _)

pub one_more_member : (ms : List (Bor (List ℕ) × Value)) (m : Bor (List ℕ) × Value) (r : Option (Members × List Token))
    → parse_map (members_before ms) (parse_map (member m.0.now (value_view m.1)) r) ≡ parse_map (members_before (ms ++ m ∷ [])) r
one_more_member ms m None = refl
one_more_member ms m (Some p) = ap (λ js. Some (js, p.1)) (members_push ms m p.0)

pub none_before : {A : Type 0} (r : Option (A × List Token)) → r ≡ parse_map (λ a. a) r
none_before None = refl
none_before (Some p) = refl

latest : (b : Bool) (j : Json) (o p : Option Json) → later_or (cond b (Some j) o) p ≡ cond b (Some j) (later_or o p)
latest true j o p = refl
latest false j o p = refl

pub get_member-push : (name : List ℕ) (ms : List (Bor (List ℕ) × Value)) (m : Bor (List ℕ) × Value) → get_member name (members_view (ms ++ m ∷ [])) ≡ cond (bytes_eq m.0.now name) (Some (value_view m.1)) (get_member name (members_view ms))
get_member-push name [] m = refl
get_member-push name (n ∷ ms) m =
    ap (λ found. later_or found (cond (bytes_eq n.0.now name) (Some (value_view n.1)) None)) (get_member-push name ms m) ∙ latest (bytes_eq m.0.now name) (value_view m.1) _ _
