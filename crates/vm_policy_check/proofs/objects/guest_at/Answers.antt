use Rattle.std.proofs.Common.{Option, sym, ap, ◌∙◌}
use Rattle.std.specs.Option.{option_and_then, option_map}
use Rattle.std.specs.Borrow.{Bor}
use Rattle.json.specs.Find.{at}
use Rattle.json.specs.Json.{Json}
use Rattle.vm_json.specs.Tree.{value_view}
use Rattle.vm_json.specs.declared.value.Value.{Value}
use Rattle.vm_policy_check.specs.KnownKeys.{keys_or_none}
use Rattle.vm_policy_check.proofs.objects.guest_at.Goals as goal

pub returns-in-Some : goal.returns-in-Some
returns-in-Some c =
    c.item_at.ensures
    ∙ ap (λ (o : Option Json). keys_or_none (option_and_then (at c.args.number) o))
    (ap (option_map (λ (v : Bor Value). value_view v.now)) (sym c.in-Some.is) ∙ c.last_member.ensures)

pub returns-in-None : goal.returns-in-None
returns-in-None c =
    ap (λ (o : Option Json). keys_or_none (option_and_then (at c.args.number) o))
    (ap (option_map (λ (v : Bor Value). value_view v.now)) (sym c.in-None.is) ∙ c.last_member.ensures)
