-- A guest on a machine that no other guest has frames of.
use Rattle.std.specs.Prelude.{◌≡◌, ◌≤◌, Bool, IsTrue}
use Rattle.vm_guest.specs.Frames.{Numbers}
use Rattle.vm_guest.specs.Good.{HasNothingPosted}
use Rattle.vm_guest.specs.State.{GuestState}

pub record IsLone (out : Numbers) (served first : Bool) (guest : GuestState) : Type 0 where
  pub own : out ≡ guest.frames
  -- an epoch may begin
  pub nothing : IsTrue served → HasNothingPosted guest.guest
  -- the swap area may grow
  pub room : IsTrue first → guest.capacity ≤ 262144
