use Rattle.std.proofs.Common.{◌≡◌, ◌∙◌, ap, false, subst, sym}
use Rattle.std.specs.FinSet as set
use Rattle.vm_frames.specs.Machine.{MachineView}
use Rattle.vm_guest.specs.Frames.{Numbers}
use Rattle.guest_cases.specs.Lone.{IsLone}
use Rattle.vm_guest.specs.Boundary.{with_spare}
use Rattle.vm_guest.proofs.EpochLemmas.{with_spare-nothing_posted}
use Rattle.guest_cases.proofs.LoneLemmas.{lone_moved}
use Rattle.guest_cases.proofs.lone_guest.LoneGuest.add_spare.Goals as goal

pub add_spare-requires-clause-new_number : goal.add_spare-requires-clause-new_number
add_spare-requires-clause-new_number c =
    subst (λ (out : Numbers). set.contains out c.in_ok-frame.frame.number ≡ false) c.self.invariant.own c.in_ok-frame.ensures.free

pub invariant_of-self : goal.invariant_of-self
invariant_of-self c =
    subst (λ (m : MachineView). IsLone m.out c.self.inside.served c.self.inside.first c.self.inside.guest) (sym c.in_err-frame.ensures.none) c.self.invariant

pub invariant_of-self-2 : goal.invariant_of-self-2
invariant_of-self-2 c =
    lone_moved c.self.inside.machine.out _ c.self.inside.served c.self.inside.first c.self.inside.guest c.add_spare.new.self (with_spare c.self.inside.guest.guest) (ap (λ (m : MachineView). m.out) c.in_ok-frame.ensures.taken ∙ ap (λ (out : Numbers). set.insert out c.in_ok-frame.frame.number) c.self.invariant.own ∙ sym c.add_spare.ensures.frames) c.add_spare.ensures.record c.add_spare.ensures.capacity
    (with_spare-nothing_posted c.self.inside.guest.guest) c.self.invariant
