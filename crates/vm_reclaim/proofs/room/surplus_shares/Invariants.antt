use Rattle.std.proofs.Common.{◌≡◌, ◌-◌, ◌++◌, drop}
use Rattle.vm_plan.specs.PlanRow.{rows_of}
use Rattle.vm_pool.specs.Guests.{sum_of}
use Rattle.vm_reclaim.specs.Making.{shares_of}
use Rattle.vm_reclaim.proofs.room.surplus_shares.Given as goal

-- the rows that are left complete the counts
abbrev pub invariant-loop-row : goal.invariant-loop-row
invariant-loop-row l = record {
  done : l.counts.items ++ shares_of l.left (rows_of (drop l.row-index l.rows)) ≡ shares_of l.fn.short (rows_of l.rows);
  short : l.left - sum_of (shares_of l.left (rows_of (drop l.row-index l.rows))) ≡ l.fn.short - sum_of (shares_of l.fn.short (rows_of l.rows));
}
