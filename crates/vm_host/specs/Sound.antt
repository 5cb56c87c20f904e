-- What is always true of a host between its calls.
use Rattle.std.specs.Prelude.{◌≡◌, length}
use Rattle.vm_admission.specs.Accounts.{FitsFrames, FitsSwap}
use Rattle.vm_guest.specs.Good.{HasNothingPosted}
use Rattle.vm_host.specs.declared.phase.Phase.TheVariants.{Ready}
use Rattle.vm_host.specs.Books.{books_of}
use Rattle.vm_pool.specs.Pool.{EachGuest}
use Rattle.vm_sound.specs.Sound.{IsSoundPool}
use Rattle.vm_domains.specs.Machine.{IsMachine}
use Rattle.vm_host.specs.World.{World, Conserves}

-- and the machine covers what its guests were promised
pub record IsSoundWorld (w : World) : Type 0 where
  pub machine : IsMachine w.machine
  pub named : length w.names ≡ length w.pool.configs
  pub pool : IsSoundPool w.pool
  pub frames_are : w.pool.frames ≡ w.machine.frames
  pub overhead : w.pool.overhead ≡ w.machine.overhead
  pub conserves : Conserves w
  pub frames : FitsFrames (books_of w)
  pub swap : FitsSwap (books_of w)
  -- between a boundary and its epoch no buffer waits for a device
  pub served : w.phase ≡ Ready → EachGuest HasNothingPosted w.pool
