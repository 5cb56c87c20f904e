use Rattle.std.proofs.Common.{◌∙◌, ◌+◌, drop, fold, subst, sym, ap}
use Rattle.vm_plan.specs.declared.stretch.Stretch.{Stretch}
use Rattle.vm_plan.specs.Stretches.{moves_of}
use Rattle.vm_pool.specs.Changes.{taken_at}
use Rattle.vm_pool.specs.Pool.{PoolView}
use Rattle.vm_sound.specs.Moves.{CanTake, HasFrameAt}
use Rattle.vm_reclaim.proofs.StretchLemmas.{left-can, left-done, stretch-can}
use Rattle.vm_reclaim.proofs.room.take_all.Goals as goal

pub take_at-requires : goal.take_at-requires
take_at-requires c =
    stretch-can HasFrameAt taken_at c.loop-stretch.pool c.stretches-stretches.result.now c.loop-stretch.stretch-index (record { position = 0; count = 0 })
    c.loop-stretch-test.true c.loop-stretch.invariant.can

pub loop-stretch-preserved : goal.loop-stretch-preserved
loop-stretch-preserved c =
    let pool = c.loop-stretch.pool in
    let stretches = c.stretches-stretches.result.now in
    let i = c.loop-stretch.stretch-index in
    let none : Stretch = record { position = 0; count = 0 } in
    let later = moves_of (drop (i + 1) stretches) in
    let next = left-done HasFrameAt taken_at pool stretches i none c.loop-stretch-test.true in
    let can = left-can HasFrameAt taken_at pool stretches i none c.loop-stretch-test.true c.loop-stretch.invariant.can in
    record {
      done = ap (λ (p : PoolView). fold taken_at p later) c.take_at.ensures ∙ (next ∙ c.loop-stretch.invariant.done);
      can = subst (λ (p : PoolView). CanTake p later) (sym c.take_at.ensures) can;
    }
