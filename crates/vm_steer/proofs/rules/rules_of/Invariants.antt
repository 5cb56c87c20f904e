use Rattle.std.proofs.Common.{◌≡◌, drop, length}
use Rattle.vm_steer.specs.Look.{rules_of}
use Rattle.vm_steer.proofs.rules.rules_of.Given as goal

-- those that are left have the same rules for the name
abbrev pub invariant-loop-position : goal.invariant-loop-position
invariant-loop-position l = (l.position-end ≡ length l.guests) × (rules_of (drop l.position l.guests) l.name ≡ rules_of l.guests l.name)
