use Rattle.std.proofs.Common.{◌≡◌, drop, fold}
use Rattle.vm_guest.specs.Boundary.{revoked}
use Rattle.vm_plan.specs.Stretches.{moves_of}
use Rattle.vm_pool.specs.CanMove.{CanRevoke}
use Rattle.vm_pool.specs.Changes.{changed}
use Rattle.vm_reclaim.proofs.reclaim.revoke_all.Given as goal

-- the stretches that are left complete what was done
abbrev pub invariant-loop-stretch : goal.invariant-loop-stretch
invariant-loop-stretch l = record {
  done : fold (changed revoked) l.pool (moves_of (drop l.stretch-index l.stretches)) ≡ fold (changed revoked) l.fn.pool l.plan;
  can : CanRevoke l.pool (moves_of (drop l.stretch-index l.stretches));
}
