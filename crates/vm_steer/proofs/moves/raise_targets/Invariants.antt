use Rattle.std.proofs.Common.{◌≡◌, ◌≤◌, All}
use Rattle.vm_plan.specs.PlanRow.{rows_of}
use Rattle.vm_steer.specs.Turns.{rows_raised, CanRise}
use Rattle.vm_steer.proofs.moves.raise_targets.Given as goal

-- the moves that are left complete what was done
abbrev pub invariant-loop-position : goal.invariant-loop-position
invariant-loop-position l =
    (goal.iterator-loop-position).can_next l.position-iterator ×
    (goal.iterator-loop-position).is_finite l.position-iterator ×
    (rows_raised (rows_of l.rows) l.position-iterator ≡ rows_raised (rows_of l.fn.rows) l.plan) ×
    CanRise (rows_of l.rows) l.position-iterator ×
    All (λ row. row.target ≤ row.held) l.rows
