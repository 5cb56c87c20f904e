use Rattle.vm_guest.specs.Boundary.{with_cap}
use Rattle.guest_cases.proofs.LoneLemmas.{lone_changed}
use Rattle.guest_cases.proofs.lone_guest.LoneGuest.set_cap.Goals as goal

pub invariant_of-self : goal.invariant_of-self
invariant_of-self c =
    lone_changed c.self.inside.machine.out c.self.inside.served c.self.inside.first c.self.inside.guest c.set_cap.new.self (with_cap c.self.inside.guest.guest c.args.cap) c.set_cap.ensures (λ nothing. nothing) c.self.invariant
