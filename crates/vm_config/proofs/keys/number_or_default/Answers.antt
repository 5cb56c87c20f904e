use Rattle.std.proofs.Common.{◌≡◌, ℕ, ◌≤◌, Option, sym, ap, subst, ◌∙◌}
use Rattle.std.specs.Option.{option_map}
use Rattle.std.specs.Borrow.{Bor}
use Rattle.std.specs.Prelude.{IfOk}
use Rattle.serde_json.specs.Data.{Data}
use Rattle.serde_json.specs.Find.{get}
use Rattle.vm_json.specs.View.{view}
use Rattle.vm_json.specs.declared.value.Value.{Value}
use Rattle.vm_config.specs.Keys.{number_or}
use Rattle.vm_config.specs.Places.{at}
use Rattle.vm_config.specs.declared.place.Place.TheVariants as place
use Rattle.vm_config.proofs.ValueLemmas.{placed_keeps}
use Rattle.vm_config.proofs.keys.number_or_default.Goals.{in-None, in-Some}
use Rattle.vm_config.proofs.keys.number_or_default.Goals as goal

abbrev seen : Option (Bor Value) → Option Data
seen found = option_map (λ v. view v.now) found

pub returns-clause-value : goal.returns-clause-value
returns-clause-value c =
    let object = view c.args.object.now in
    let key = c.args.key in
    let there = c.member.ensures ∙ ap (λ n. get n object) c.name.ensures in
    let chosen = λ (d : Option Data). number_or d c.args.least c.args.greatest c.args.default in
    let number : c.match-member.number ≡ chosen (seen c.member.result) =
    elim c.match-member.branch as (λ _. c.match-member.number ≡ chosen (seen c.member.result)) [
      | in-Some w ↦ w.number-is ∙ w.number_within-number.ensures.value ∙ ap (λ found. chosen (seen found)) (sym w.in-Some.is)
      | in-None w ↦ w.number-is ∙ ap (λ found. chosen (seen found)) (sym w.in-None.is)
    ] in
    c.at.ensures ∙ ap (at c.args.part key) (number ∙ ap chosen there)

pub returns-clause-within : goal.returns-clause-within
returns-clause-within c =
    let least = c.args.least in
    let greatest = c.args.greatest in
    let within : IfOk c.match-member.number (λ n. (least ≤ n) × (n ≤ greatest)) =
    elim c.match-member.branch as (λ _. IfOk c.match-member.number (λ n. (least ≤ n) × (n ≤ greatest))) [
      | in-Some w ↦ subst (λ r. IfOk r (λ n. (least ≤ n) × (n ≤ greatest))) (sym w.number-is) w.number_within-number.ensures.within
      | in-None w ↦ subst (λ r. IfOk r (λ n. (least ≤ n) × (n ≤ greatest))) (sym w.number-is) (c.requires.low, c.requires.high)
    ] in
    subst (λ r. IfOk r (λ n. (least ≤ n) × (n ≤ greatest))) (sym c.at.ensures)
    (placed_keeps (λ n. (least ≤ n) × (n ≤ greatest)) (place.Key c.args.part c.args.key) c.match-member.number within)
