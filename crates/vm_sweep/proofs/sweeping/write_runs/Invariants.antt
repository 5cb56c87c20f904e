use Rattle.std.proofs.Common.{◌≡◌, length, map, vec_len}
use Rattle.std.specs.Vec.Iter.{into_iter_items, into_iter_len}
use Rattle.vm_sweep.specs.Rounds.{IsUnderWay}
use Rattle.vm_sweep.specs.Table.{record_of}
use Rattle.vm_sweep.specs.Written.{HasTold}
use Rattle.vm_sweep.proofs.sweeping.write_runs.Given as goal

abbrev pub invariant-loop-alloc : goal.invariant-loop-alloc
invariant-loop-alloc g l = record {
  told : HasTold (g.W.Sink.contents l.fn.writer) (g.W.Sink.contents l.writer)
      (map record_of (into_iter_items l.fn.left)) (map record_of (into_iter_items l.left));
  stays : g.W.Sink.has_failed l.writer ≡ g.W.Sink.has_failed l.fn.writer;
  counted : into_iter_len l.left ≡ length (into_iter_items l.left);
  under_way : IsUnderWay (into_iter_items l.left) l.places.items;
  places : vec_len l.places ≡ vec_len l.fn.places;
}

abbrev pub decreases-loop-alloc : goal.decreases-loop-alloc
decreases-loop-alloc g l = into_iter_len l.left
