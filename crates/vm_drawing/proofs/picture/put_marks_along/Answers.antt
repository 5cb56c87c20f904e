use Rattle.vm_drawing.proofs.PictureLemmas.{shapes_more}
use Rattle.vm_drawing.specs.Picture.{mark_at}
use Rattle.vm_drawing.proofs.picture.put_marks_along.Goals as goal

pub loop-i-preserved : goal.loop-i-preserved
loop-i-preserved c =
    shapes_more (mark_at c.args.area c.args.curve.now) c.loop-i.i _ _ _ c.loop-i.invariant c.in_ok-put_mark_at.ensures
