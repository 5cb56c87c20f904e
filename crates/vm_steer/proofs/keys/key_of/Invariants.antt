use Rattle.std.proofs.Common.{◌≡◌, ◌<◌, ◌^◌, drop}
use Rattle.vm_steer.specs.Keys.{key_from}
use Rattle.vm_steer.proofs.keys.key_of.Given as goal

-- the bytes that are left complete the number
abbrev pub invariant-loop-byte : goal.invariant-loop-byte
invariant-loop-byte l = (key_from l.key (drop l.byte-index l.name) ≡ key_from 0 l.name) × (l.key < 2 ^ 29)
