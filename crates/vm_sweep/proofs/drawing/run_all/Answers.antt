use Rattle.std.proofs.Common.{◌∙◌}
use Rattle.vm_sweep.specs.Drawn.{swept_of}
use Rattle.vm_sweep.proofs.DrawnLemmas.{more-runs}
use Rattle.vm_sweep.proofs.drawing.run_all.Goals as goal

pub loop-alloc-preserved : goal.loop-alloc-preserved
loop-alloc-preserved g c = record {
  kept = more-runs swept_of _ c.in_ok-done.done.items _ c.loop-alloc.runs.items _ _ c.in_ok-done.ensures.done
      (rw (← c.deref.ensures.value) c.in_ok-keep_runs.ensures) c.loop-alloc.invariant.kept;
  counted = c.in_ok-done.ensures.counted;
  under_way = c.in_ok-done.ensures.under_way;
  places = c.in_ok-done.ensures.places ∙ c.loop-alloc.invariant.places;
}
