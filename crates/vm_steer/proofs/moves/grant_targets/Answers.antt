use Rattle.std.proofs.Common.{◌∙◌, List, ℕ, ap, subst, sym}
use Rattle.vm_plan.specs.Grants.{pool_after}
use Rattle.vm_plan.specs.PlanRow.{pool_of, rows_of}
use Rattle.vm_plan.specs.Row.{Row}
use Rattle.vm_steer.specs.Turns.{AreRaised}
use Rattle.vm_steer.proofs.TurnLemmas.{can_rise, raised, rows-raised}
use Rattle.vm_steer.proofs.moves.grant_targets.Goals as goal

pub raise_targets-requires-clause-can : goal.raise_targets-requires-clause-can
raise_targets-requires-clause-can c = can_rise (pool_of c.args.free c.args.rows.now) c.in_ok-plan.plan c.in_ok-plan.ensures.applies

pub returns-clause-rows : goal.returns-clause-rows
returns-clause-rows c =
    let pool = pool_of c.args.free c.args.rows.now in
    c.raise_targets.ensures.rows ∙ (rows-raised pool c.in_ok-plan.plan ∙ ap (λ (moves : List ℕ). (pool_after pool moves).rows) c.in_ok-plan.ensures.exact)

pub returns-clause-raised : goal.returns-clause-raised
returns-clause-raised c =
    let pool = pool_of c.args.free c.args.rows.now in
    let plan = c.in_ok-plan.plan in
    subst (λ (moves : List ℕ). AreRaised moves pool.rows (rows_of c.raise_targets.new.rows)) c.in_ok-plan.ensures.exact
    (subst (λ (after : List Row). AreRaised plan pool.rows after) (sym c.raise_targets.ensures.rows) (raised pool.rows plan (can_rise pool plan c.in_ok-plan.ensures.applies)))
