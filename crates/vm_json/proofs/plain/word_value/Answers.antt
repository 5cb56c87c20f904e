use Rattle.std.proofs.Common.{◌≡◌, true, false, sym, subst, ◌∙◌, rules}
use Rattle.std.proofs.lemmas.Slice.Eq.{bytes_eq-Decides}
use Rattle.json.specs.Ascii.{false_text, null_text, true_text}
use Rattle.json.specs.Json.{Json}
use Rattle.vm_json.specs.Plain.{Spells}
use Rattle.vm_json.specs.Tree.{value_view}
use Rattle.vm_json.specs.declared.value.Value.{Bool, Null, the_lemmas}
use Rattle.vm_json.proofs.PlainLemmas.{true_spelled, false_spelled, null_spelled}
use Rattle.vm_json.proofs.plain.word_value.Goals as goal

pub returns-then-eq : goal.returns-then-eq
returns-then-eq c =
    let word = c.args.word.now in
    let seen : value_view (Bool true) ≡ Json.boolean true = search (rules, the_lemmas) in
    subst (Spells word) (sym seen) (true_spelled word ((bytes_eq-Decides word true_text).0 (sym c.eq.ensures ∙ c.if-eq.true)))

pub returns-then-eq-2 : goal.returns-then-eq-2
returns-then-eq-2 c =
    let word = c.args.word.now in
    let seen : value_view (Bool false) ≡ Json.boolean false = search (rules, the_lemmas) in
    subst (Spells word) (sym seen) (false_spelled word ((bytes_eq-Decides word false_text).0 (sym c.eq-else-eq.ensures ∙ c.if-eq-2.true)))

pub returns-then-eq-3 : goal.returns-then-eq-3
returns-then-eq-3 c =
    let word = c.args.word.now in
    let seen : value_view Null ≡ Json.null = search (rules, the_lemmas) in
    subst (Spells word) (sym seen) (null_spelled word ((bytes_eq-Decides word null_text).0 (sym c.eq-else-eq-2.ensures ∙ c.if-eq-3.true)))
