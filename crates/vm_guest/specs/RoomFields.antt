-- What the fields of a guest's room show, and what is true of them.
use Rattle.std.specs.Prelude.{◌≡◌, length}
use Rattle.vm_guest.specs.declared.room.GuestRoom.TheInside.{Inside}
use Rattle.vm_guest.specs.Room.{RoomView, IsMemoryRoom, IsRoomOf}

abbrev pub room_of : Inside → RoomView
room_of g = record {
  size = length g.memory.pages;
  slots = g.memory.swap.capacity;
  sampling = g.room.sampler;
  words = g.room.words;
}

pub record IsGuestRoom (g : Inside) : Type 0 where
  pub room : IsRoomOf (room_of g) g.room
  pub memory : IsMemoryRoom g.memory
  -- its sampler draws of as many pages
  pub sampled : g.room.sampler.size ≡ length g.memory.pages
