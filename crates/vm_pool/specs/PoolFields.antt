-- What the fields of a pool show, and what is true of them.
use Rattle.std.specs.Prelude.{◌≡◌, ℕ, ◌+◌, ◌-◌, ◌*◌, ◌<◌, ◌≤◌, ◌^◌, All, [], map, length, vec_capacity}
use Rattle.std.specs.FinSet as set
use Rattle.vm_guest.specs.Frames.{times_among}
use Rattle.vm_pool.specs.declared.pool.Pool.TheInside.{Inside}
use Rattle.vm_pool.specs.Moves.{once_if}
use Rattle.vm_pool.specs.Pool.{PoolView, most_aside, running_count, total_held}
use Rattle.vm_pool.specs.Slots.{config_in, guest_in, holders, IsSettled}

abbrev pub pool_of : Inside → PoolView
pool_of p = record {
  frames = p.machine.total;
  overhead = p.overhead;
  configs = map config_in p.slots.items;
  guests = map guest_in p.slots.items;
  free = p.machine.total - set.len p.machine.out;
}

-- a frame is out exactly where it is held once, by a guest or among those set aside; each guest has its target; and there is room for
-- all frames that may be set aside, and for the specifications to come back
pub record IsPool (p : Inside) : Type 0 where
  pub few : length p.slots.items ≤ 256
  pub fits : p.machine.total < 2 ^ 32
  pub within : set.len p.machine.out ≤ p.machine.total
  pub settled : All IsSettled p.slots.items
  pub owners : (number : ℕ) → holders number p.slots.items + times_among number p.aside.items ≡ once_if (set.contains p.machine.out number)
  pub held : set.len p.machine.out ≡ total_held (map guest_in p.slots.items) + length p.aside.items
  pub aside : length p.aside.items ≡ p.overhead * running_count (map guest_in p.slots.items)
  pub room : most_aside p.overhead (length p.slots.items) p.machine.total ≤ vec_capacity p.aside
  pub no_specs : p.specs.items ≡ []
  pub home : length p.slots.items ≤ vec_capacity p.specs
