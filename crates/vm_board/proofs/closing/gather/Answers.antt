use Rattle.std.proofs.Common.{arith, vec_len, vec_capacity, ◌∙◌, ◌≡◌, ◌<◌, ◌≤◌, ℕ, List}
use Rattle.std.specs.Prelude.{Option}
use Rattle.std.specs.Mem.Slots.{slots_filled, slots_items, slots_len}
use Rattle.vm_board.proofs.Counts.{as_roomy, no_more}
use Rattle.vm_board.proofs.Slots.{put_next, took_filled, took_empty}
use Rattle.vm_board.proofs.closing.gather.Goals as goal

-- it is among as many slots as there were
among : (i count was now : ℕ) → i < count → count ≡ was → now ≡ was → i < now
among i count was now less is same = omega arith

from_here : (i : ℕ) → i ≤ i
from_here i = omega arith

pub take-requires : goal.take-requires
take-requires g c =
    let less = among c.loop-i.i c.slot_count-i-end.result (slots_len c.args.closed.slots) (slots_len c.loop-i.closed.slots) c.loop-i-test.true c.slot_count-i-end.ensures c.loop-i.invariant.4 in
    (less, c.loop-i.invariant.5 c.loop-i.i (from_here c.loop-i.i) less)

-- the implicit arguments are given, since those that antt finds are large
pub loop-i-preserved : goal.loop-i-preserved
loop-i-preserved g c = (
  put_next {X = g.row.J.Denot} (slots_items c.args.closed.slots) (slots_items c.loop-i.closed.slots) c.loop-i.i c.take.result c.loop-i.room.items c.put_in.new.list.items c.loop-i.invariant.3 c.take.ensures.value c.loop-i.invariant.0 c.put_in.ensures.items,
  no_more (vec_len c.loop-i.room) (vec_len c.put_in.new.list) c.loop-i.i c.loop-i.invariant.1 c.put_in.ensures.room.0,
  as_roomy (slots_len c.args.closed.slots) (vec_capacity c.loop-i.room) (vec_capacity c.put_in.new.list) c.loop-i.invariant.2 c.put_in.ensures.room.1,
  ◌∙◌ {A = List (Option g.row.J.Denot)} c.take.ensures.others.0 c.loop-i.invariant.3,
  ◌∙◌ {A = ℕ} c.take.ensures.others.2 c.loop-i.invariant.4,
  took_filled (slots_filled c.loop-i.closed.slots) _ c.loop-i.i (slots_len c.loop-i.closed.slots) _ c.take.ensures.others.1 c.loop-i.invariant.5 c.take.ensures.others.2,
  took_empty (slots_filled c.loop-i.closed.slots) _ c.loop-i.i c.take.ensures.others.1 c.loop-i.invariant.6,
)
