use Rattle.std.proofs.Common.{◌==◌, false, refl, ap, ◌∙◌, arith, if◌then◌else◌}
use Rattle.std.proofs.lemmas.List.{take_all}
use Rattle.std.specs.List.{list_any}
use Rattle.vm_import.specs.Marks.{mark_at}
use Rattle.vm_import.specs.declared.marks.Mark.TheVariants.{Untouched}
use Rattle.vm_import.specs.declared.touch.RankedTouch.{RankedTouch}
use Rattle.vm_import.proofs.MarkLemmas.{clears_more}
use Rattle.vm_import.proofs.marks.clear_marks.Goals as goal

pub loop-touch-init : goal.loop-touch-init
loop-touch-init c = λ rank. refl

pub loop-touch-preserved : goal.loop-touch-preserved
loop-touch-preserved c =
    let within = c.requires c.loop-touch.touch-index (record { rank = 0; offset = 0; writes = false }) c.loop-touch-test.true in
    clears_more c.args.marks.now c.loop-touch.marks c.args.touches.now c.loop-touch.touch-index (record { rank = 0; offset = 0; writes = false }) c.loop-touch-test.true (omega arith) c.loop-touch.invariant

pub returns : goal.returns
returns c = λ rank. c.loop-touch.invariant rank
    ∙ ap (λ l. if list_any (λ (t : RankedTouch). t.rank == rank) l then Untouched else mark_at c.args.marks.now rank) (take_all c.loop-touch.touch-index c.args.touches.now c.loop-touch-test.false)
