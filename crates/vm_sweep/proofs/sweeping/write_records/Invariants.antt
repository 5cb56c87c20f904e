use Rattle.std.proofs.Common.{◌≡◌, map, drop}
use Rattle.vm_sweep.specs.Table.{record_of}
use Rattle.vm_sweep.specs.Written.{HasTold}
use Rattle.vm_sweep.proofs.sweeping.write_records.Given as goal

abbrev pub invariant-loop-one : goal.invariant-loop-one
invariant-loop-one g l = record {
  told : HasTold (g.W.Sink.contents l.fn.writer) (g.W.Sink.contents l.writer) (map record_of l.done) (map record_of (drop l.one-index l.done));
  stays : g.W.Sink.has_failed l.writer ≡ g.W.Sink.has_failed l.fn.writer;
}
