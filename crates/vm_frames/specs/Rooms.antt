-- What the functions of `src/block.rt` say of a room for a page.
use Rattle.std.specs.Prelude.{◌≡◌, ℕ, ◌*◌, Bool, true, false, List, Some, None}
use Rattle.std.specs.Borrow.{Lends, MutBor, Fml}
use denote.RawPtr.{Ptr, ◌+ₚ◌}
use Rattle.vm_frames.specs.Ownership.{Hold, IsPlaced, Page}
use Rattle.vm_frames.specs.Frame.{bytes_of}
use Rattle.vm_frames.specs.declared.block.Room.{Room}
use Rattle.vm_frames.specs.contracts.block.Room.{the_row}

-- the room is at p, and nothing is written there
pub record IsEmpty (r : Room) (p : Ptr) : Type 0 where
  pub place : r.ptr ≡ p
  pub empty : r.page ≡ None

-- the room is at p, and a page is written there
pub record IsWritten (r : Room) (p : Ptr) : Type 0 where
  pub place : r.ptr ≡ p
  pub written : r.page ≡ Some (bytes_of r.page)

-- the room stays where it is, and ends with the page last written through r
abbrev pub LendsPage : MutBor Room → MutBor (List ℕ) → Fml
LendsPage room r = Lends the_row Page room r (λ w. record room.now { page = Some w })

-- the room is at p, and `written` says whether a page is written there
abbrev pub IsMarked : Bool → Room → Ptr → Type 0
IsMarked true r p = IsWritten r p
IsMarked false r p = IsEmpty r p

-- n pages come before the page in its block
pub record IsPageOf (h : Hold) (n : ℕ) : Type 0 where
  pub there : IsPlaced h.first
  pub place : h.page ≡ h.first +ₚ (n * 4096)

-- a frame's number, mark and room are those of its page
pub record IsFrameAt (h : Hold) (n : ℕ) (written : Bool) (r : Room) : Type 0 where
  pub page : IsPageOf h n
  pub marked : IsMarked written r h.page
