use Rattle.vm_drawing.proofs.PictureLemmas.{one_more}
use Rattle.vm_drawing.specs.Bands.{edge_at}
use Rattle.vm_drawing.proofs.bands.put_outline.Goals as goal

pub loop-i-preserved : goal.loop-i-preserved
loop-i-preserved c =
    one_more (edge_at c.args.area c.args.curve.now c.args.spreads.now) c.loop-i.i _ _ _ c.loop-i.invariant c.in_ok-put_edge_at.ensures
