-- Lists of moves that can be done, one after the other: positions whose guests lose a page of their targets and give up a frame
-- (Waldspurger, OSDI 2002, sections 5.1 and 5.2).
use Rattle.std.specs.Prelude.{◌≡◌, ℕ, ◌<◌, ◌≤◌, List, Some, length}
use Rattle.vm_guest.specs.Record.{GuestRecord}
use Rattle.vm_pool.specs.CanMove.{CanDo}
use Rattle.vm_pool.specs.Changes.{taken_at}
use Rattle.vm_pool.specs.Pool.{PoolView, guest_at}

-- the guest at the position can lose a page of its target, and has its target of frames
pub record HasFrameAt (pool : PoolView) (position : ℕ) : Type 0 where
  pub guest : GuestRecord
  pub here : guest_at pool position ≡ Some guest
  pub within : position < length pool.guests
  pub above : guest.allotment.min < guest.allotment.target
  pub held : guest.allotment.target ≤ guest.memory.held

-- each of these can, one after the other
abbrev pub CanTake : PoolView → List ℕ → Type 0
CanTake pool moves = CanDo HasFrameAt taken_at pool moves
