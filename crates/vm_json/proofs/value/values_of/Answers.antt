use Rattle.std.proofs.Common.{◌≡◌, ℕ, ◌+◌, ◌<◌, List, [], ◌∷◌, ◌++◌, length, map, get_or, take, sym, ap, ◌∙◌, rules}
use Rattle.std.proofs.lemmas.List.{append_assoc, map_push, take_all, take_more}
use Rattle.std.specs.Borrow.{Bor}
use Rattle.json.specs.Json.{Json, string}
use Rattle.vm_json.specs.Tree.{texts_view, value_view}
use Rattle.vm_json.specs.declared.value.Value.{Value, Text, the_lemmas}
use Rattle.vm_json.proofs.value.values_of.Goals as goal

view-Text : (t : Bor (List ℕ)) → value_view (Text t) ≡ string t.now
view-Text t = search (rules, the_lemmas)

-- one text more stands behind the others
text_more : (texts : List (Bor (List ℕ))) (i : ℕ) (d : Bor (List ℕ)) (before all : List Value) → i < length texts → map value_view before ≡ texts_view (take i texts)
    → all ≡ before ++ Text (get_or texts i d) ∷ [] → map value_view all ≡ texts_view (take (i + 1) texts)
text_more texts i d before all inside so_far pushed =
    ap (map value_view) pushed ∙ map_push value_view before (Text (get_or texts i d)) ∙ (λ j. so_far j ++ view-Text (get_or texts i d) j ∷ [])
    ∙ sym (ap texts_view (take_more texts i d inside) ∙ map_push (λ t. string t.now) (take i texts) (get_or texts i d))

-- the first of the values that were left is now behind the others
value_more : (before all rest left : List Value) (v : Value) (whole : List Json) → map value_view before ++ map value_view rest ≡ whole → rest ≡ v ∷ left
    → all ≡ before ++ v ∷ [] → map value_view all ++ map value_view left ≡ whole
value_more before all rest left v whole so_far next pushed =
    ap (λ vs. map value_view vs ++ map value_view left) pushed ∙ ap (λ js. js ++ map value_view left) (map_push value_view before v)
    ∙ append_assoc (map value_view before) _ _ ∙ ap (λ vs. map value_view before ++ map value_view vs) (sym next) ∙ so_far

pub loop-text-init : goal.loop-text-init
loop-text-init c = ap (map value_view) c.new-all.ensures.items

pub loop-text-preserved : goal.loop-text-preserved
loop-text-preserved c =
    let l = c.loop-text in
    text_more c.args.texts.now l.text-index _ l.all.items c.add.new.items.items c.loop-text-test.true l.invariant c.in_ok-add.ensures.ok

pub loop-value-init : goal.loop-value-init
loop-value-init c =
    let texts = c.loop-text.invariant ∙ ap texts_view (take_all c.loop-text.text-index c.args.texts.now c.loop-text-test.false) in
    λ j. texts j ++ map value_view (c.into_iter-value-iterator.ensures.into_iter_gives.0 j)

pub loop-value-preserved : goal.loop-value-preserved
loop-value-preserved c =
    let l = c.loop-value in
    value_more l.all.items c.add-in-loop-value.new.items.items l.value-iterator.rest.items c.next.new.self.rest.items c.in-Some.value _ l.invariant c.in-Some.ensures.steps.0
    c.in_ok-add-2.ensures.ok
