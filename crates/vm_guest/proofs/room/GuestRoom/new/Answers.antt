use Rattle.std.proofs.Common.{◌≡◌, ◌-◌, length, subst, sym, ap, ◌∙◌}
use Rattle.vm_sampling.specs.Sampling.{Sampling}
use Rattle.vm_guest.specs.declared.room.GuestRoom.TheInside.{Inside}
use Rattle.vm_guest.specs.Config.{GuestConfig}
use Rattle.vm_guest.specs.Room.{RoomView, IsRoomOf, room_for}
use Rattle.vm_guest.specs.RoomFields.{room_of}
use Rattle.vm_guest.proofs.room.GuestRoom.new.Goals as goal

room-view : (c : GuestConfig) (i : Inside) → IsRoomOf (room_for c) i.room → length i.memory.pages ≡ c.size → i.memory.swap.capacity ≡ c.size - c.min → room_of i ≡ room_for c
room-view c i room size slots = λ k. record { size = size k; slots = slots k; sampling = room.sampling k; words = room.words k }

pub invariant_of-result : goal.invariant_of-result
invariant_of-result c =
    let i : Inside = record { room = c.in-Ok.room; memory = c.in_ok-memory.memory } in
    let memory = c.in_ok-memory.ensures in
    let size = memory.pages ∙ ap (λ (s : GuestConfig). s.size) c.spec.view_is in
    let slots = memory.slots ∙ ap (λ (s : GuestConfig). s.size - s.min) c.spec.view_is in
    record {
      room = subst (λ (v : RoomView). IsRoomOf v c.in-Ok.room) (sym (room-view c.args.spec.now i c.in-Ok.ensures size slots)) c.in-Ok.ensures;
      memory = memory.room;
      sampled = ap (λ (t : Sampling). t.size) c.in-Ok.ensures.sampling ∙ sym size;
    }

pub returns-in-Ok : goal.returns-in-Ok
returns-in-Ok c =
    let i : Inside = record { room = c.in-Ok.room; memory = c.in_ok-memory.memory } in
    let memory = c.in_ok-memory.ensures in
    let size = memory.pages ∙ ap (λ (s : GuestConfig). s.size) c.spec.view_is in
    let slots = memory.slots ∙ ap (λ (s : GuestConfig). s.size - s.min) c.spec.view_is in
    room-view c.args.spec.now i c.in-Ok.ensures size slots
