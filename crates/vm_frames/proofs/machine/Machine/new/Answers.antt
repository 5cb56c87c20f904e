use Rattle.std.proofs.Common.{◌≡◌, ℕ, ◌+◌, arith}
use Rattle.vm_frames.proofs.machine.Machine.new.Goals as goal

none_made : (n m : ℕ) → n ≡ m → n + 0 ≡ m
none_made n m is = omega arith

pub invariant_of-result : goal.invariant_of-result
invariant_of-result c = record {
  distinct = rw c.in_ok-free.ensures.items tt;
  left = (c.in_ok-memory.ensures.made, none_made _ _ c.in_ok-memory.ensures.all);
  room = c.in_ok-free.ensures.capacity;
  fits = c.ranges.frames.fits;
}
