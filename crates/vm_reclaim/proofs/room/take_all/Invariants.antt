use Rattle.std.proofs.Common.{◌≡◌, drop, fold}
use Rattle.vm_plan.specs.Stretches.{moves_of}
use Rattle.vm_pool.specs.Changes.{taken_at}
use Rattle.vm_sound.specs.Moves.{CanTake}
use Rattle.vm_reclaim.proofs.room.take_all.Given as goal

-- the stretches that are left complete what was done
abbrev pub invariant-loop-stretch : goal.invariant-loop-stretch
invariant-loop-stretch l = record {
  done : fold taken_at l.pool (moves_of (drop l.stretch-index l.stretches)) ≡ fold taken_at l.fn.pool l.plan;
  can : CanTake l.pool (moves_of (drop l.stretch-index l.stretches));
}
