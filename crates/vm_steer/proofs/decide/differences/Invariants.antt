use Rattle.std.proofs.Common.{◌≡◌, length}
use Rattle.vm_plan.specs.PlanRow.{rows_of}
use Rattle.vm_steer.specs.Deciding.{by_position}
use Rattle.vm_steer.specs.Turns.{differences_at}
use Rattle.vm_steer.proofs.decide.differences.Given as goal

-- what is decided for the rows so far
abbrev pub invariant-loop-position : goal.invariant-loop-position
invariant-loop-position l =
    (l.position-end ≡ length l.rows) ×
    (l.outcomes.items ≡ by_position (differences_at (rows_of l.rows) (rows_of l.fallen) (rows_of l.risen) (rows_of l.after)) l.position)
