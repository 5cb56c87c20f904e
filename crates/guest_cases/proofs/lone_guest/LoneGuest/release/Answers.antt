use Rattle.vm_guest.proofs.OnlyGuestLemmas.{own_out, own_left}
use Rattle.vm_guest.specs.Boundary.{released}
use Rattle.vm_guest.proofs.EpochLemmas.{released-nothing_posted}
use Rattle.guest_cases.proofs.LoneLemmas.{lone_moved}
use Rattle.guest_cases.proofs.lone_guest.LoneGuest.release.Goals as goal

pub release-requires-clause-out : goal.release-requires-clause-out
release-requires-clause-out c = own_out _ _ c.self.invariant.own

pub invariant_of-self : goal.invariant_of-self
invariant_of-self c =
    lone_moved c.self.inside.machine.out _ c.self.inside.served c.self.inside.first c.self.inside.guest c.release.new.self (released c.args.count c.self.inside.guest.guest) (own_left _ _ _ _ c.self.invariant.own c.release.ensures.frames) c.release.ensures.record c.release.ensures.capacity
    (released-nothing_posted c.args.count c.self.inside.guest.guest) c.self.invariant
