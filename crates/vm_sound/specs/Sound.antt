-- What is always true of a pool whose guests are set up from their configurations.
use Rattle.std.specs.Prelude.{◌≡◌, ℕ, ◌≤◌, All, Some, length, slice_get}
use Rattle.vm_guest.specs.Config.{IsWithinLimits}
use Rattle.vm_guest.specs.Good.{IsGood}
use Rattle.vm_guest.specs.Record.{GuestRecord}
use Rattle.vm_pool.specs.Guests.{guest_in}
use Rattle.vm_pool.specs.Pool.{PoolView, EachGuest}

-- the guest at each position is good, and has the configuration of its position
pub record IsSoundPool (pool : PoolView) : Type 0 where
  pub paired : length pool.guests ≡ length pool.configs
  pub few : length pool.configs ≤ 256
  pub limits : All IsWithinLimits pool.configs
  pub good : EachGuest IsGood pool
  pub set_up : (position : ℕ) (g : GuestRecord) → guest_in pool.guests position ≡ Some g → slice_get pool.configs position ≡ Some g.config

-- it has as many frames, sets as many aside for a guest, and its guests are set up as before
pub record HasSameSetup (old new : PoolView) : Type 0 where
  pub frames : new.frames ≡ old.frames
  pub overhead : new.overhead ≡ old.overhead
  pub configs : new.configs ≡ old.configs
