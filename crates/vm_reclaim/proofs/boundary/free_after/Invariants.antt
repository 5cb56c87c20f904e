use Rattle.std.proofs.Common.{◌≡◌, ◌-◌, ◌+◌, ◌≤◌, drop}
use Rattle.vm_reclaim.specs.Planning.{frames_in}
use Rattle.vm_reclaim.proofs.boundary.free_after.Given as goal

-- what is left of them was not given up yet
abbrev pub invariant-loop-guest : goal.invariant-loop-guest
invariant-loop-guest l = record {
  left : l.used + frames_in l.paged ≡ l.fn.pool.frames - l.fn.pool.free + frames_in (drop l.guest-index l.paged);
  within : frames_in (drop l.guest-index l.paged) ≤ l.used;
}
