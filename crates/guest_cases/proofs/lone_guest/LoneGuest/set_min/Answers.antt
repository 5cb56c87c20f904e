use Rattle.vm_guest.specs.Boundary.{with_min}
use Rattle.guest_cases.proofs.LoneLemmas.{lone_changed}
use Rattle.guest_cases.proofs.lone_guest.LoneGuest.set_min.Goals as goal

pub invariant_of-self : goal.invariant_of-self
invariant_of-self c =
    lone_changed c.self.inside.machine.out c.self.inside.served c.self.inside.first c.self.inside.guest c.set_min.new.self (with_min c.self.inside.guest.guest c.args.least) c.set_min.ensures (λ nothing. nothing) c.self.invariant
