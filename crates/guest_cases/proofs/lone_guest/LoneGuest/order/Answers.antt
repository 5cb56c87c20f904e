use Rattle.vm_guest.specs.Boundary.{ordered}
use Rattle.guest_cases.proofs.LoneLemmas.{lone_changed}
use Rattle.guest_cases.proofs.lone_guest.LoneGuest.order.Goals as goal

pub invariant_of-self : goal.invariant_of-self
invariant_of-self c =
    lone_changed c.self.inside.machine.out c.self.inside.served c.self.inside.first c.self.inside.guest c.order.new.self (ordered c.self.inside.guest.guest c.args.blocked) c.order.ensures (λ nothing. nothing) c.self.invariant
