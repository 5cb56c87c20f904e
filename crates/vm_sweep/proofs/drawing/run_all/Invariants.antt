use Rattle.std.proofs.Common.{◌≡◌, ◌++◌, length, map, vec_len}
use Rattle.std.specs.Vec.Iter.{into_iter_items, into_iter_len}
use Rattle.vm_sweep.specs.Drawn.{swept_of}
use Rattle.vm_sweep.specs.Rounds.{IsUnderWay}
use Rattle.vm_sweep.proofs.drawing.run_all.Given as goal

-- with those of the runs that are left they are the whole
abbrev pub invariant-loop-alloc : goal.invariant-loop-alloc
invariant-loop-alloc g l = record {
  kept : l.runs.items ++ map swept_of (into_iter_items l.left) ≡ map swept_of (into_iter_items l.fn.left);
  counted : into_iter_len l.left ≡ length (into_iter_items l.left);
  under_way : IsUnderWay (into_iter_items l.left) l.places.items;
  places : vec_len l.places ≡ vec_len l.fn.places;
}

abbrev pub decreases-loop-alloc : goal.decreases-loop-alloc
decreases-loop-alloc g l = into_iter_len l.left
