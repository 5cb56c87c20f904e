-- What keeps a guest alone on its machine.
use Rattle.std.proofs.Common.{◌≡◌, ◌≤◌, Bool, IsTrue, subst, sym}
use Rattle.vm_guest.specs.Frames.{Numbers}
use Rattle.vm_guest.specs.Good.{HasNothingPosted}
use Rattle.vm_guest.specs.Record.{GuestRecord}
use Rattle.vm_guest.specs.State.{GuestState, with_guest}
use Rattle.guest_cases.specs.Lone.{IsLone}

-- a change of the record alone, which posts nothing
pub lone_changed : (out : Numbers) (served first : Bool) (before after : GuestState) (guest : GuestRecord) → after ≡ with_guest before guest
    → (HasNothingPosted before.guest → HasNothingPosted guest) → IsLone out served first before → IsLone out served first after
lone_changed out served first before after guest is keeps lone =
    subst (λ (s : GuestState). IsLone out served first s) (sym is) (record { own = lone.own; nothing = λ t. keeps (lone.nothing t); room = lone.room })

-- a change of the record and of the frames, which posts nothing
pub lone_moved : (was out : Numbers) (served first : Bool) (before after : GuestState) (guest : GuestRecord) → out ≡ after.frames → after.guest ≡ guest
    → after.capacity ≡ before.capacity → (HasNothingPosted before.guest → HasNothingPosted guest) → IsLone was served first before
    → IsLone out served first after
lone_moved was out served first before after guest own is same keeps lone = record {
  own = own;
  nothing = λ t. subst (λ (g : GuestRecord). HasNothingPosted g) (sym is) (keeps (lone.nothing t));
  room = λ t. rw same (lone.room t);
}
