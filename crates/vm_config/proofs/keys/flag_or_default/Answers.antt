use Rattle.std.proofs.Common.{◌≡◌, Option, sym, ap, ◌∙◌}
use Rattle.std.specs.Option.{option_map}
use Rattle.std.specs.Borrow.{Bor}
use Rattle.serde_json.specs.Data.{Data}
use Rattle.serde_json.specs.Find.{get}
use Rattle.vm_json.specs.View.{view}
use Rattle.vm_json.specs.declared.value.Value.{Value}
use Rattle.vm_config.specs.Keys.{flag_or, of_kind}
use Rattle.vm_config.specs.Places.{at}
use Rattle.vm_config.proofs.ValueLemmas.{kind_or}
use Rattle.vm_config.proofs.keys.flag_or_default.Goals.{in-None, in-Some}
use Rattle.vm_config.proofs.keys.flag_or_default.Goals as goal

abbrev seen : Option (Bor Value) → Option Data
seen found = option_map (λ v. view v.now) found

pub returns : goal.returns
returns c =
    let object = view c.args.object.now in
    let there = c.member.ensures ∙ ap (λ n. get n object) c.name.ensures in
    let chosen = λ (d : Option Data). flag_or d c.args.default in
    let flag : c.match-member.flag ≡ chosen (seen c.member.result) =
    elim c.match-member.branch as (λ _. c.match-member.flag ≡ chosen (seen c.member.result)) [
      | in-Some w ↦ w.flag-is ∙ w.ok_or-flag.ensures.value ∙ kind_or w.truth.result ∙ ap of_kind w.truth.ensures
          ∙ ap (λ found. chosen (seen found)) (sym w.in-Some.is)
      | in-None w ↦ w.flag-is ∙ ap (λ found. chosen (seen found)) (sym w.in-None.is)
    ] in
    c.at.ensures ∙ ap (at c.args.part c.args.key) (flag ∙ ap chosen there)
