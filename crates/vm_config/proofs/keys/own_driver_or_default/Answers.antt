use Rattle.std.proofs.Common.{◌≡◌, Option, sym, ap, ◌∙◌}
use Rattle.std.specs.Option.{option_map}
use Rattle.std.specs.Borrow.{Bor}
use Rattle.serde_json.specs.Data.{Data}
use Rattle.serde_json.specs.Find.{get}
use Rattle.vm_json.specs.View.{view}
use Rattle.vm_json.specs.declared.value.Value.{Value}
use Rattle.vm_config.specs.Keys.{own_driver_or}
use Rattle.vm_config.specs.Places.{at}
use Rattle.vm_config.specs.declared.place.Key.TheVariants.{Driver}
use Rattle.vm_config.proofs.keys.own_driver_or_default.Goals.{in-None, in-Some}
use Rattle.vm_config.proofs.keys.own_driver_or_default.Goals as goal

abbrev seen : Option (Bor Value) → Option Data
seen found = option_map (λ v. view v.now) found

pub returns : goal.returns
returns c =
    let object = view c.args.object.now in
    let there = c.member.ensures ∙ ap (λ n. get n object) c.name.ensures in
    let is_own : c.match-member.is_own ≡ own_driver_or (seen c.member.result) =
    elim c.match-member.branch as (λ _. c.match-member.is_own ≡ own_driver_or (seen c.member.result)) [
      | in-Some w ↦ w.is_own-is ∙ w.own_driver-is_own.ensures ∙ ap (λ found. own_driver_or (seen found)) (sym w.in-Some.is)
      | in-None w ↦ w.is_own-is ∙ ap (λ found. own_driver_or (seen found)) (sym w.in-None.is)
    ] in
    c.at.ensures ∙ ap (at c.args.guest Driver) (is_own ∙ ap own_driver_or there)
