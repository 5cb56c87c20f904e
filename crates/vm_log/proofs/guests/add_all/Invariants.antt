use Rattle.std.proofs.Common.{◌≡◌, drop, length}
use Rattle.vm_log.specs.Growing.{growing_in}
use Rattle.vm_log.specs.Steps.{alone_names, names_of, with_entries}
use Rattle.vm_steer.specs.Names.{AreRising}
use Rattle.vm_log.proofs.guests.add_all.Given as goal

-- those that are left complete it
abbrev pub invariant-loop-entry : goal.invariant-loop-entry
invariant-loop-entry l = record {
  added : with_entries l.policy l.fn.recording.epochs l.closed (drop l.entry-index l.entries) (growing_in l.recording) ≡ with_entries l.policy l.fn.recording.epochs l.closed l.entries (growing_in l.fn.recording);
  guests : AreRising (names_of l.recording.guests.items);
  beside : AreRising (alone_names l.recording.beside.items);
  kept : length l.recording.kept.items ≡ length l.recording.guests.items;
  counts : length l.recording.counts.items ≡ length l.recording.guests.items;
  epochs : l.recording.epochs ≡ l.fn.recording.epochs;
  samples : l.recording.open ≡ l.fn.recording.open;
}
