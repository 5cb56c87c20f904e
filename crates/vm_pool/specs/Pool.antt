-- A machine with its guests, as plain data: no frame is in it, and no number of one.
use Rattle.std.specs.Prelude.{◌≡◌, ℕ, ◌+◌, ◌*◌, ◌≤◌, List, IfSome, Option, Some, None, map, min, slice_get}
use Rattle.vm_guest.specs.Config.{GuestConfig}
use Rattle.vm_guest.specs.Record.{GuestRecord}
use Rattle.vm_guest.specs.Room.{RoomView, room_for}
use Rattle.vm_pool.specs.Guests.{Guests, guest_in, of_running, total, EachRunning}

pub record PoolView : Type 0 where
  -- how many frames the machine has
  pub frames : ℕ
  -- how many frames are set aside for each running guest (Waldspurger, OSDI 2002, section 6.2)
  pub overhead : ℕ
  -- by position: how each guest is set up
  pub configs : List GuestConfig
  -- by position: the record of the guest that runs there, if one does
  pub guests : Guests
  -- how many frames are neither held by a guest nor set aside
  pub free : ℕ

-- no guest runs, and all frames are free
abbrev pub first_pool : ℕ → ℕ → List GuestConfig → PoolView
first_pool frames overhead configs = record {
  frames = frames;
  overhead = overhead;
  configs = configs;
  guests = map (λ _. None) configs;
  free = frames;
}

-- the guest at a position, if one runs there
abbrev pub guest_at : PoolView → ℕ → Option GuestRecord
guest_at p position = guest_in p.guests position

-- the configuration of a guest that does not run
abbrev pub unless_runs : Option GuestRecord → Option GuestConfig → Option GuestConfig
unless_runs None config = config
unless_runs (Some g) config = None

abbrev pub stopped_config : PoolView → ℕ → Option GuestConfig
stopped_config p position = unless_runs (guest_at p position) (slice_get p.configs position)

-- how many frames a guest holds: none where none runs
abbrev pub held_by : Option GuestRecord → ℕ
held_by guest = of_running (λ g. g.memory.held) guest

-- how many frames the guests hold together
abbrev pub total_held : Guests → ℕ
total_held guests = total (λ g. g.memory.held) guests

abbrev pub one_if_runs : Option GuestRecord → ℕ
one_if_runs guest = of_running (λ _. 1) guest

-- how many guests run
abbrev pub running_count : Guests → ℕ
running_count guests = total (λ _. 1) guests

-- how many frames are set aside
abbrev pub overhead_frames : PoolView → ℕ
overhead_frames p = p.overhead * running_count p.guests

-- how many frames may be set aside at once: the overhead of each guest, and no more than there are
abbrev pub most_aside : ℕ → ℕ → ℕ → ℕ
most_aside overhead guests frames = min (overhead * guests) frames

-- frames free, held by guests and set aside for them add up to so many
abbrev pub AddUpTo : ℕ → PoolView → Type 0
AddUpTo frames p = p.free + total_held p.guests + overhead_frames p ≡ frames

-- they add up to those of the pool
abbrev pub Conserves : PoolView → Type 0
Conserves p = AddUpTo p.frames p

-- the guest has its target of frames
abbrev pub HasTarget : GuestRecord → Type 0
HasTarget g = g.allotment.target ≤ g.memory.held

-- it is true of each guest that runs
abbrev pub EachGuest : (GuestRecord → Type 0) → PoolView → Type 0
EachGuest P p = EachRunning P p.guests

-- the room is for the guest at a position
abbrev pub IsRoomAt : PoolView → ℕ → RoomView → Type 0
IsRoomAt p position room = IfSome (slice_get p.configs position) (λ config. room ≡ room_for config)
