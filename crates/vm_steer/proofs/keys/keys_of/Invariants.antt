use Rattle.std.proofs.Common.{◌≡◌, ◌++◌, drop}
use Rattle.vm_steer.specs.Keys.{keys_of}
use Rattle.vm_steer.proofs.keys.keys_of.Given as goal

-- the guests that are left complete the numbers
abbrev pub invariant-loop-guest : goal.invariant-loop-guest
invariant-loop-guest l = l.keys.items ++ keys_of (drop l.guest-index l.guests) ≡ keys_of l.guests
