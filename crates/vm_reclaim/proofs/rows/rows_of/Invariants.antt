use Rattle.std.proofs.Common.{◌≡◌, ◌<◌, ◌≤◌, ◌++◌, ℕ, All, IfSome, drop, length}
use Rattle.vm_guest.specs.Good.{IsGood}
use Rattle.vm_plan.specs.PlanRow.{rows_of as plan_rows}
use Rattle.vm_pool.specs.Guests.{guest_in}
use Rattle.vm_reclaim.specs.Rows.{rows_of}
use Rattle.vm_reclaim.proofs.rows.rows_of.Given as goal

-- the guests that are left complete the rows
abbrev pub invariant-loop-position : goal.invariant-loop-position
invariant-loop-position l = record {
  ends : l.position-end ≡ length l.fn.pool.guests;
  done : plan_rows l.rows.items ++ rows_of (drop l.position l.fn.pool.guests) ≡ rows_of l.fn.pool.guests;
  good : (i : ℕ) → i < l.position → IfSome (guest_in l.fn.pool.guests i) IsGood;
  held : All (λ row. row.target ≤ row.held) l.rows.items;
}
