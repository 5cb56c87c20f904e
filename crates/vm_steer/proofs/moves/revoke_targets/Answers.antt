use Rattle.std.proofs.Common.{◌∙◌, List, ℕ, ap, subst, sym}
use Rattle.vm_plan.specs.PlanRow.{rows_of}
use Rattle.vm_plan.specs.Revocation.{rows_after}
use Rattle.vm_plan.specs.Row.{Row}
use Rattle.vm_steer.specs.Turns.{AreLowered}
use Rattle.vm_steer.proofs.TurnLemmas.{can_lower, lowered}
use Rattle.vm_steer.proofs.moves.revoke_targets.Goals as goal

pub lower_targets-requires-clause-can : goal.lower_targets-requires-clause-can
lower_targets-requires-clause-can c = can_lower (rows_of c.args.rows.now) c.in_ok-plan.plan c.in_ok-plan.ensures.applies

pub returns-clause-rows : goal.returns-clause-rows
returns-clause-rows c = c.lower_targets.ensures.rows ∙ ap (λ (moves : List ℕ). rows_after (rows_of c.args.rows.now) moves) c.in_ok-plan.ensures.exact

pub returns-clause-lowered : goal.returns-clause-lowered
returns-clause-lowered c =
    let rows = rows_of c.args.rows.now in
    let plan = c.in_ok-plan.plan in
    subst (λ (moves : List ℕ). AreLowered moves rows (rows_of c.lower_targets.new.rows)) c.in_ok-plan.ensures.exact
    (subst (λ (after : List Row). AreLowered plan rows after) (sym c.lower_targets.ensures.rows) (lowered rows plan (can_lower rows plan c.in_ok-plan.ensures.applies)))
