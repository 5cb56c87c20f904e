use Rattle.std.proofs.Common.{◌≡◌, length}
use Rattle.vm_plan.specs.PlanRow.{rows_of}
use Rattle.vm_reclaim.specs.Planning.{drivers_of}
use Rattle.vm_reclaim.proofs.FloorLemmas.{first_floored}
use Rattle.vm_reclaim.proofs.rebalance.raise_floors.Given as goal

-- the minimums of the first rows rose
abbrev pub invariant-loop-position : goal.invariant-loop-position
invariant-loop-position l = record {
  ends : l.position-end ≡ length l.fn.rows;
  few : length l.rows ≡ length l.fn.rows;
  rows : rows_of l.rows ≡ first_floored l.position (drivers_of l.pool.guests) (rows_of l.fn.rows);
}
