use Rattle.vm_guest.proofs.OnlyGuestLemmas.{own_out, own_left}
use Rattle.vm_guest.specs.Boundary.{without_spares}
use Rattle.guest_cases.proofs.LoneLemmas.{lone_moved}
use Rattle.guest_cases.proofs.lone_guest.LoneGuest.spares_back.Goals as goal

pub spares_back-count-requires-clause-out : goal.spares_back-count-requires-clause-out
spares_back-count-requires-clause-out c = own_out _ _ c.self.invariant.own

pub invariant_of-self : goal.invariant_of-self
invariant_of-self c =
    lone_moved c.self.inside.machine.out _ c.self.inside.served c.self.inside.first c.self.inside.guest c.spares_back-count.new.self (without_spares c.self.inside.guest.guest) (own_left _ _ _ _ c.self.invariant.own c.spares_back-count.ensures.frames) c.spares_back-count.ensures.record c.spares_back-count.ensures.capacity
    (λ nothing. nothing) c.self.invariant
