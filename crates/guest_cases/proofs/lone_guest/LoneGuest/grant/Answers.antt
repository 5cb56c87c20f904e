use Rattle.std.proofs.Common.{◌≡◌, ◌∙◌, ap, false, subst, sym}
use Rattle.std.specs.FinSet as set
use Rattle.vm_frames.specs.Machine.{MachineView}
use Rattle.vm_guest.specs.Frames.{Numbers}
use Rattle.guest_cases.specs.Lone.{IsLone}
use Rattle.vm_guest.specs.Boundary.{granted}
use Rattle.vm_guest.proofs.EpochLemmas.{granted-nothing_posted}
use Rattle.guest_cases.proofs.LoneLemmas.{lone_moved}
use Rattle.guest_cases.proofs.lone_guest.LoneGuest.grant.Goals as goal

pub grant-requires-clause-new_number : goal.grant-requires-clause-new_number
grant-requires-clause-new_number c =
    subst (λ (out : Numbers). set.contains out c.in_ok-frame.frame.number ≡ false) c.self.invariant.own c.in_ok-frame.ensures.free

pub invariant_of-self : goal.invariant_of-self
invariant_of-self c =
    subst (λ (m : MachineView). IsLone m.out c.self.inside.served c.self.inside.first c.self.inside.guest) (sym c.in_err-frame.ensures.none) c.self.invariant

pub invariant_of-self-2 : goal.invariant_of-self-2
invariant_of-self-2 c =
    lone_moved c.self.inside.machine.out _ c.self.inside.served c.self.inside.first c.self.inside.guest c.grant.new.self (granted c.self.inside.guest.guest) (ap (λ (m : MachineView). m.out) c.in_ok-frame.ensures.taken ∙ ap (λ (out : Numbers). set.insert out c.in_ok-frame.frame.number) c.self.invariant.own ∙ sym c.grant.ensures.frames) c.grant.ensures.record c.grant.ensures.capacity
    (granted-nothing_posted c.self.inside.guest.guest) c.self.invariant
