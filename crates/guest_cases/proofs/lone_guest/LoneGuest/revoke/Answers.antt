use Rattle.vm_guest.specs.Boundary.{revoked}
use Rattle.guest_cases.proofs.LoneLemmas.{lone_changed}
use Rattle.guest_cases.proofs.lone_guest.LoneGuest.revoke.Goals as goal

pub invariant_of-self : goal.invariant_of-self
invariant_of-self c =
    lone_changed c.self.inside.machine.out c.self.inside.served c.self.inside.first c.self.inside.guest c.revoke.new.self (revoked c.self.inside.guest.guest) c.revoke.ensures (λ nothing. nothing) c.self.invariant
