use Rattle.vm_guest.specs.Boundary.{with_shares}
use Rattle.guest_cases.proofs.LoneLemmas.{lone_changed}
use Rattle.guest_cases.proofs.lone_guest.LoneGuest.set_shares.Goals as goal

pub invariant_of-self : goal.invariant_of-self
invariant_of-self c =
    lone_changed c.self.inside.machine.out c.self.inside.served c.self.inside.first c.self.inside.guest c.set_shares.new.self (with_shares c.self.inside.guest.guest c.args.shares) c.set_shares.ensures (λ nothing. nothing) c.self.invariant
