use Rattle.std.proofs.Common.{◌≡◌, drop}
use Rattle.vm_steer.specs.Look.{rules_of}
use Rattle.vm_steer.proofs.bounds.rules_among.Given as goal

-- those that are left have the same rules for the name
abbrev pub invariant-loop-guest : goal.invariant-loop-guest
invariant-loop-guest l = rules_of (drop l.guest-index l.guests) l.name ≡ rules_of l.guests l.name
