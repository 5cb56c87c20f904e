use Rattle.std.proofs.Common.{◌≡◌, sym, subst, rules}
use Rattle.json.specs.Json.{Json}
use Rattle.vm_json.specs.Plain.{GivesValue}
use Rattle.vm_json.specs.Tree.{value_view}
use Rattle.vm_json.specs.declared.value.Value.{Number, Text, the_lemmas}
use Rattle.vm_json.proofs.PlainLemmas.{number_given, text_given}
use Rattle.vm_json.proofs.plain.leaf.Goals as goal

pub returns-in-Some-clause-value : goal.returns-in-Some-clause-value
returns-in-Some-clause-value c depth =
    let text = c.args.text.now in
    let found = c.in-Some.found in
    let left = c.in-Some.left.now in
    let seen : value_view (Text found) ≡ Json.string found.now = search (rules, the_lemmas) in
    subst (λ j. GivesValue depth text j left) (sym seen) (text_given depth text found.now left c.in-Some.ensures.lexemes)

pub returns-in-Some-number_at-clause-value : goal.returns-in-Some-number_at-clause-value
returns-in-Some-number_at-clause-value c depth =
    let text = c.args.text.now in
    let found = c.in-Some-number_at.found in
    let left = c.in-Some-number_at.left.now in
    let seen : value_view (Number found) ≡ Json.number found.now = search (rules, the_lemmas) in
    subst (λ j. GivesValue depth text j left) (sym seen) (number_given depth text found.now left c.in-Some-number_at.ensures.lexemes)
