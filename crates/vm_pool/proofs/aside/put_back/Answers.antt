use Rattle.std.proofs.Common.{◌∙◌, arith}
use Rattle.vm_pool.proofs.MoveLemmas.{aside-less, last-out, rest-out}
use Rattle.vm_pool.proofs.aside.put_back.Goals as goal

pub give-requires : goal.give-requires
give-requires c = last-out c.loop.aside.items _ c.in-Some.frame _ c.in-Some.ensures.items c.loop.invariant.out

pub loop-preserved : goal.loop-preserved
loop-preserved c = record {
  moved = aside-less _ c.loop.aside.items _ c.in-Some.frame _ _ _ c.loop.invariant.moved c.in-Some.ensures.items c.loop.invariant.out c.give.ensures;
  count = omega (arith, c.in-Some.ensures.len);
  room = c.in-Some.ensures.capacity ∙ c.loop.invariant.room;
  out = rest-out c.loop.aside.items _ c.in-Some.frame _ _ c.in-Some.ensures.items c.loop.invariant.out c.give.ensures;
}
