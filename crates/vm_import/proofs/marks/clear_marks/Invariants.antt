-- The pages of the touches so far are cleared.
use Rattle.std.proofs.Common.{◌≡◌, ℕ, ◌==◌, take, if◌then◌else◌}
use Rattle.std.specs.List.{list_any}
use Rattle.vm_import.specs.Marks.{mark_at}
use Rattle.vm_import.specs.declared.marks.Mark.TheVariants.{Untouched}
use Rattle.vm_import.specs.declared.touch.RankedTouch.{RankedTouch}
use Rattle.vm_import.proofs.marks.clear_marks.Given as goal

abbrev pub invariant-loop-touch : goal.invariant-loop-touch
invariant-loop-touch l =
    (rank : ℕ) → mark_at l.marks rank ≡ (if list_any (λ (t : RankedTouch). t.rank == rank) (take l.touch-index l.touches) then Untouched else mark_at l.initial.marks rank)
