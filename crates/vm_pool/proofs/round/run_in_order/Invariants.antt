use Rattle.std.proofs.Common.{◌≡◌, ◌≤◌}
use Rattle.std.specs.List.{range_with_len}
use Rattle.vm_pool.specs.Pool.{one_if_runs}
use Rattle.vm_pool.specs.Slots.{guest_in, slot_run}
use Rattle.vm_pool.proofs.FirstLemmas.{first_mapped, first_total}
use Rattle.vm_pool.proofs.round.run_in_order.Given as goal

-- the guests of the first slots passed the gate and ran
abbrev pub invariant-loop-slot : goal.invariant-loop-slot
invariant-loop-slot g l = record {
  run : l.slots ≡ first_mapped slot_run l.slot-index l.fn.slots;
  count : l.number ≡ first_total (λ slot. one_if_runs (guest_in slot)) l.slot-index l.fn.slots;
  few : l.number ≤ l.slot-index;
  passed : g.G.Gate.passed l.outside (range_with_len 0 l.number);
}
