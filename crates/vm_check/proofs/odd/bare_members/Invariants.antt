use Rattle.std.proofs.Common.{◌≡◌, ◌++◌, drop}
use Rattle.std.specs.Prelude.{map}
use Rattle.vm_check.proofs.odd.bare_members.Given as goal

-- the members that are left complete the keys
abbrev pub invariant-loop-key : goal.invariant-loop-key
invariant-loop-key l =
    map (λ m. m.0.now) l.bare.items ++ map (λ m. m.0.now) (drop l.key-index l.members) ≡ map (λ m. m.0.now) l.members
