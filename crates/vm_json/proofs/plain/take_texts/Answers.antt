use Rattle.std.proofs.Common.{◌≡◌, ℕ, ◌++◌, ◌∷◌, [], List, map, ap, sym, subst, ◌∙◌, arith, rules}
use Rattle.std.specs.Borrow.{Bor}
use Rattle.std.proofs.lemmas.List.{map_push}
use Rattle.vm_json.specs.Plain.{GivesTexts}
use Rattle.vm_json.proofs.PlainLemmas.{text_taken}
use Rattle.vm_json.proofs.plain.take_texts.Goals as goal

abbrev bytes : Bor (List ℕ) → List ℕ
bytes t = t.now

pub loop-found-preserved : goal.loop-found-preserved
loop-found-preserved c =
    let before = c.loop-found.texts.items in
    let found = c.in-Some.found in
    let text = c.args.text.now in
    let next = c.in-Some.next.now in
    let added : map bytes c.add.new.items.items ≡ map bytes before ++ found.now ∷ [] = ap (map bytes) c.in_ok-add.ensures.ok ∙ map_push bytes before found in (
      search rules,
      subst (λ all. GivesTexts text all next) (sym added) (text_taken text (map bytes before) c.loop-found.left.now found.now next c.loop-found.invariant.1 c.in-Some.ensures.lexemes),
      omega (arith, c.in-Some.ensures.shorter, c.loop-found.invariant.2),
    )
