use Rattle.std.proofs.Common.{◌≡◌, drop, length}
use Rattle.std.specs.List.{list_any}
use Rattle.vm_plan.specs.Row.{wants_to_grow}
use Rattle.vm_reclaim.specs.Rows.{rows_of}
use Rattle.vm_reclaim.proofs.rest.some_wants_to_grow.Given as goal

-- none of the guests before wants to grow
abbrev pub invariant-loop-position : goal.invariant-loop-position
invariant-loop-position l = record {
  ends : l.position-end ≡ length l.fn.pool.guests;
  none : list_any wants_to_grow (rows_of (drop l.position l.fn.pool.guests)) ≡ list_any wants_to_grow (rows_of l.fn.pool.guests);
}
