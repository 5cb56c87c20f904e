use Rattle.std.proofs.Common.{◌≡◌, ◌++◌, drop, length}
use Rattle.vm_plan.specs.PlanRow.{rows_of}
use Rattle.vm_reclaim.specs.Planning.{waiting_from}
use Rattle.vm_reclaim.specs.Reclaim.{blocks_in}
use Rattle.vm_reclaim.proofs.boundary.blocked_of.Given as goal

-- the rows that are left complete the list
abbrev pub invariant-loop-position : goal.invariant-loop-position
invariant-loop-position l = record {
  ends : l.position-end ≡ length l.rows;
  done : l.blocked.items ++ waiting_from l.position (blocks_in l.state) (drop l.position (rows_of l.rows)) ≡ waiting_from 0 (blocks_in l.state) (rows_of l.rows);
}
