use Rattle.std.proofs.Common.{◌≡◌, ◌+◌, ◌*◌, ◌≤◌, ◌^◌, drop, map}
use Rattle.vm_pool.specs.Guests.{total}
use Rattle.vm_pool.specs.Pool.{running_count}
use Rattle.vm_pool.specs.Slots.{guest_in}
use Rattle.vm_pool.specs.Threads.{beside_of, pages_of, steps_of}
use Rattle.vm_pool.proofs.round.gain.Given as goal

-- the guests that are left complete each sum, to which each gives as much as a guest's can be
abbrev pub invariant-loop-slot : goal.invariant-loop-slot
invariant-loop-slot l = record {
  steps : l.steps + total steps_of (map guest_in (drop l.slot-index l.slots)) ≡ total steps_of (map guest_in l.slots);
  pages : l.pages + total pages_of (map guest_in (drop l.slot-index l.slots)) ≡ total pages_of (map guest_in l.slots);
  beside : l.beside + total beside_of (map guest_in (drop l.slot-index l.slots)) ≡ total beside_of (map guest_in l.slots);
  moves : l.moves + 200 * running_count (map guest_in (drop l.slot-index l.slots)) ≡ 200 * running_count (map guest_in l.slots);
  few_steps : l.steps ≤ l.slot-index * 262144;
  few_pages : l.pages ≤ l.slot-index * 2 ^ 33;
  little : l.beside ≤ l.slot-index * 400000000;
  few_moves : l.moves ≤ l.slot-index * 200;
}
