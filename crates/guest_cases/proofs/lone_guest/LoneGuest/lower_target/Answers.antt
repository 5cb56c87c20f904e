use Rattle.vm_guest.specs.Boundary.{lowered}
use Rattle.guest_cases.proofs.LoneLemmas.{lone_changed}
use Rattle.guest_cases.proofs.lone_guest.LoneGuest.lower_target.Goals as goal

pub invariant_of-self : goal.invariant_of-self
invariant_of-self c =
    lone_changed c.self.inside.machine.out c.self.inside.served c.self.inside.first c.self.inside.guest c.lower_target.new.self (lowered c.args.count c.self.inside.guest.guest) c.lower_target.ensures (λ nothing. nothing) c.self.invariant
