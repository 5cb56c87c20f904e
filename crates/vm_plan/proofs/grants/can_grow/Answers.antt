use Rattle.std.proofs.Common.{◌∙◌, sym}
use Rattle.vm_plan.specs.Row.{wants_to_grow}
use Rattle.vm_plan.proofs.RowLemmas.{some_row}
use Rattle.vm_plan.proofs.grants.can_grow.Goals as goal

pub returns-then-lets_grow : goal.returns-then-lets_grow
returns-then-lets_grow c =
    let wants = c.some_wants_to_grow.ensures ∙ some_row wants_to_grow c.args.rows.now in (
      λ yes. record { lets = c.lets_grow.ensures.0 c.if-lets_grow.true; wants = sym wants ∙ yes },
      λ can. wants ∙ can.wants,
    )
