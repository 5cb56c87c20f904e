use Rattle.std.proofs.Common.{◌≡◌, drop, fold}
use Rattle.vm_plan.specs.Stretches.{moves_of}
use Rattle.vm_pool.specs.CanMove.{CanGrant}
use Rattle.vm_pool.specs.Changes.{granted_at}
use Rattle.vm_reclaim.proofs.reclaim.grant_all.Given as goal

-- the stretches that are left complete what was done
abbrev pub invariant-loop-stretch : goal.invariant-loop-stretch
invariant-loop-stretch l = record {
  done : fold granted_at l.pool (moves_of (drop l.stretch-index l.stretches)) ≡ fold granted_at l.fn.pool l.plan;
  can : CanGrant l.pool (moves_of (drop l.stretch-index l.stretches));
}
