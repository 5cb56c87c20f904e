use Rattle.std.proofs.Common.{◌≡◌, ◌≤◌, All}
use Rattle.vm_plan.specs.PlanRow.{rows_of}
use Rattle.vm_plan.specs.Revocation.{rows_after}
use Rattle.vm_steer.specs.Turns.{CanLower}
use Rattle.vm_steer.proofs.moves.lower_targets.Given as goal

-- the moves that are left complete what was done
abbrev pub invariant-loop-position : goal.invariant-loop-position
invariant-loop-position l =
    (goal.iterator-loop-position).can_next l.position-iterator ×
    (goal.iterator-loop-position).is_finite l.position-iterator ×
    (rows_after (rows_of l.rows) l.position-iterator ≡ rows_after (rows_of l.fn.rows) l.plan) ×
    CanLower (rows_of l.rows) l.position-iterator ×
    All (λ row. row.target ≤ row.held) l.rows
