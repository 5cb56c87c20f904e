use Rattle.std.proofs.Common.{◌∙◌, ◌+◌, drop, fold, subst, sym, ap}
use Rattle.vm_plan.specs.declared.stretch.Stretch.{Stretch}
use Rattle.vm_plan.specs.Stretches.{moves_of}
use Rattle.vm_pool.specs.CanMove.{CanGrant, IsGrantableAt}
use Rattle.vm_pool.specs.Changes.{granted_at}
use Rattle.vm_pool.specs.Pool.{PoolView}
use Rattle.vm_reclaim.proofs.StretchLemmas.{left-can, left-done, stretch-can}
use Rattle.vm_reclaim.proofs.reclaim.grant_all.Goals as goal

pub grant-requires : goal.grant-requires
grant-requires c =
    stretch-can IsGrantableAt granted_at c.loop-stretch.pool c.stretches-stretches.result.now c.loop-stretch.stretch-index (record { position = 0; count = 0 })
    c.loop-stretch-test.true c.loop-stretch.invariant.can

pub loop-stretch-preserved : goal.loop-stretch-preserved
loop-stretch-preserved c =
    let pool = c.loop-stretch.pool in
    let stretches = c.stretches-stretches.result.now in
    let i = c.loop-stretch.stretch-index in
    let none : Stretch = record { position = 0; count = 0 } in
    let later = moves_of (drop (i + 1) stretches) in
    let next = left-done IsGrantableAt granted_at pool stretches i none c.loop-stretch-test.true in
    let can = left-can IsGrantableAt granted_at pool stretches i none c.loop-stretch-test.true c.loop-stretch.invariant.can in
    record {
      done = ap (λ (p : PoolView). fold granted_at p later) c.grant.ensures ∙ (next ∙ c.loop-stretch.invariant.done);
      can = subst (λ (p : PoolView). CanGrant p later) (sym c.grant.ensures) can;
    }
