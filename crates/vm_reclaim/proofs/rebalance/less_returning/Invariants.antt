use Rattle.std.proofs.Common.{◌≡◌, ◌-◌, drop, length}
use Rattle.vm_plan.specs.PlanRow.{rows_of}
use Rattle.vm_reclaim.specs.Planning.{drivers_of, returning_in}
use Rattle.vm_reclaim.proofs.rebalance.less_returning.Given as goal

-- the rows that are left complete what is taken off
abbrev pub invariant-loop-position : goal.invariant-loop-position
invariant-loop-position l = record {
  ends : l.position-end ≡ length l.rows;
  done : l.left - returning_in (drop l.position (drivers_of l.pool.guests)) (drop l.position (rows_of l.rows)) ≡ l.pages - returning_in (drivers_of l.pool.guests) (rows_of l.rows);
}
