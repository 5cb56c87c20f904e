use Rattle.std.proofs.Common.{◌∙◌, sym}
use Rattle.vm_reclaim.proofs.rest.can_rise.Goals as goal

pub returns-then-lets_rise : goal.returns-then-lets_rise
returns-then-lets_rise c =
    let enough = c.lets_rise.ensures.0 c.if-lets_rise.true in
    let wants = c.some_wants_to_grow.ensures in (
      λ yes. record { lets = enough; wants = sym wants ∙ yes },
      λ can. wants ∙ can.wants,
    )
