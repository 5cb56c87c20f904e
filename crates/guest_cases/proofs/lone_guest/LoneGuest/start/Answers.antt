use Rattle.std.proofs.Common.{◌≡◌, ◌∙◌, ◌≤◌, arith, ap, subst, sym}
use Rattle.std.specs.FinSet as set
use Rattle.std.specs.Ordering.{nat_cmp}
use Rattle.vm_frames.specs.Machine.{MachineView}
use Rattle.vm_guest.specs.Config.{GuestConfig}
use Rattle.vm_guest.specs.Good.{HasNothingPosted}
use Rattle.vm_guest.specs.Record.{GuestRecord}
use Rattle.vm_guest.proofs.EpochLemmas.{started-nothing_posted}
use Rattle.vm_guest.proofs.OnlyGuestLemmas.{own_given}
use Rattle.guest_cases.proofs.lone_guest.LoneGuest.start.Goals as goal

pub close-requires : goal.close-requires
close-requires c = ap (λ (m : MachineView). set.len m.out) c.in_ok-machine.ensures ∙ set.len-empty nat_cmp

pub start-requires : goal.start-requires
start-requires c = record { enough = rw c.in_ok-machine.ensures (omega (arith, set.len-empty nat_cmp, ap (λ (s : GuestConfig). s.min) c.spec.view_is)) }

pub close-requires-in-Err : goal.close-requires-in-Err
close-requires-in-Err c =
    ap (λ (m : MachineView). set.len m.out) c.in-Err.ensures.refused ∙ ap (λ (m : MachineView). set.len m.out) c.in_ok-machine.ensures ∙ set.len-empty nat_cmp

pub invariant_of-result : goal.invariant_of-result
invariant_of-result c = record {
  own = own_given _ _ _ (ap (λ (m : MachineView). m.out) c.in_ok-machine.ensures) c.in-Ok.ensures.frames;
  nothing = λ served. subst (λ (r : GuestRecord). HasNothingPosted r) (sym c.in-Ok.ensures.record) (started-nothing_posted c.args.spec);
  room = λ first. omega (arith, c.in-Ok.ensures.capacity, c.spec.invariant.few_pages, ap (λ (s : GuestConfig). s.size) c.spec.view_is);
}
