use Rattle.std.proofs.Common.{◌≡◌, drop, fold}
use Rattle.vm_reclaim.specs.Boundary.{given_up, CanGiveUp}
use Rattle.vm_reclaim.proofs.reclaim.give_up_all.Given as goal

-- the guests that are left complete what was done
abbrev pub invariant-loop-guest : goal.invariant-loop-guest
invariant-loop-guest l = record {
  done : fold given_up l.pool (drop l.guest-index l.paged) ≡ fold given_up l.fn.pool l.paged;
  can : CanGiveUp l.pool (drop l.guest-index l.paged);
}
