use Rattle.std.proofs.Common.{◌+◌, ap, ◌∙◌}
use Rattle.std.specs.FinSet as set
use Rattle.vm_guest.specs.Config.{GuestConfig}
use Rattle.vm_guest.specs.Memory.{memory_of}
use Rattle.vm_guest.specs.Room.{RoomView}
use Rattle.vm_guest.proofs.room.GuestRoom.start.Goals as goal

pub first_parts-requires-clause-memory : goal.first_parts-requires-clause-memory
first_parts-requires-clause-memory c =
    let size = ap (λ (v : RoomView). v.size) (c.self.view_is ∙ c.requires.room) in
    let min = ap (λ (s : GuestConfig). s.min) c.spec.view_is in
    c.new-memory.ensures.memory ∙ (λ i. memory_of (size i) (min i))

pub returns-clause-fit : goal.returns-clause-fit
returns-clause-fit c = c.first_parts.ensures.fit

pub returns-clause-count : goal.returns-clause-count
returns-clause-count c =
    let min = ap (λ (s : GuestConfig). s.min) c.spec.view_is in
    c.new-memory.ensures.count ∙ ap (λ n. set.len c.args.machine.now.out + n) min
