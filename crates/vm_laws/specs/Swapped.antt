-- Pages in swap inside an epoch, of which a boundary and the end of an epoch tell nothing by themselves.
use Rattle.std.specs.Prelude.{◌≡◌, ◌<◌, ◌≤◌, ◌↔◌, ℕ, IfSome, max}
use Rattle.vm_config.specs.declared.config.Config.{Config}
use Rattle.vm_guest.specs.Epoch.{epoch}
use Rattle.vm_guest.specs.Pieces.{after_pieces, pieces}
use Rattle.vm_guest.specs.Record.{GuestRecord}
use Rattle.vm_host.specs.World.{guest_at}
use Rattle.vm_sim.specs.Course.{course_of}
use Rattle.vm_tally.specs.Counts.{swapped_of}
use Rattle.vm_tally.specs.GuestSummary.{guest_summary_after}
use Rattle.vm_tally.specs.Summary.{ready_in, summary_of}

-- how many pages of a guest are in swap once the first pieces of its epoch are done: after none of them as the boundary left it, after
-- all of them as the epoch leaves it
abbrev pub swapped_after : (n : ℕ) → GuestRecord → ℕ
swapped_after n g = swapped_of (after_pieces n g)

-- of the guest at a position in epoch k this holds, after any of its pieces, if one runs
abbrev pub AtEachPiece : Config → (k position : ℕ) → (ℕ → Type 0) → Type 0
AtEachPiece c k position Fact =
    IfSome (guest_at (ready_in (course_of c) k) position) (λ g. (n : ℕ) → n ≤ pieces g → Fact (swapped_after n g))

-- no page of any guest is in swap at the end of any boundary, or of any piece of any epoch
abbrev pub NothingInSwap : Config → Type 0
NothingInSwap c = (k position : ℕ) → k < c.epochs → AtEachPiece c k position (λ swapped. swapped ≡ 0)

-- the number of a run is 0 exactly then
abbrev pub IsNoneExactly : Config → Type 0
IsNoneExactly c = ((summary_of c).most_swapped ≡ 0) ↔ NothingInSwap c

-- the number of each guest is the most that it had after any piece: it never had more
abbrev pub IsMostOfEach : Config → Type 0
IsMostOfEach c =
    (k position : ℕ) → k < c.epochs
    → AtEachPiece c k position (λ swapped. swapped ≤ (guest_summary_after (course_of c) position c.epochs).most_swapped)

-- after a piece of its epoch a guest has no more pages in swap than before the epoch or after it
abbrev pub IsMostAtAnEnd : GuestRecord → Type 0
IsMostAtAnEnd g = (n : ℕ) → n ≤ pieces g → swapped_after n g ≤ max (swapped_of g) (swapped_of (epoch g))
