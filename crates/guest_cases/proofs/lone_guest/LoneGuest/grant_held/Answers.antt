use Rattle.std.proofs.Common.{◌∙◌, sym}
use Rattle.vm_guest.specs.Boundary.{granted}
use Rattle.vm_guest.proofs.EpochLemmas.{granted-nothing_posted}
use Rattle.guest_cases.proofs.LoneLemmas.{lone_moved}
use Rattle.guest_cases.proofs.lone_guest.LoneGuest.grant_held.Goals as goal

pub invariant_of-self : goal.invariant_of-self
invariant_of-self c =
    lone_moved c.self.inside.machine.out _ c.self.inside.served c.self.inside.first c.self.inside.guest c.grant.new.self (granted c.self.inside.guest.guest) (c.self.invariant.own ∙ sym c.grant.ensures.frames) c.grant.ensures.record c.grant.ensures.capacity
    (granted-nothing_posted c.self.inside.guest.guest) c.self.invariant
