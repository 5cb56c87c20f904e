use Rattle.std.proofs.Common.{length, refl}
use Rattle.std.proofs.lemmas.Option.{slice_get_read}
use Rattle.vm_trace.proofs.Found.{alone_part}
use Rattle.vm_trace.proofs.places.item_at.Goals as goal

pub returns-clause-some : goal.returns-clause-some
returns-clause-some c =
    let entries = c.args.entries.now in
    let read = c.in_ok-entry.ensures.lookup in
    alone_part entries c.args.steps c.args.place c.in_ok-entry.entry.now c.requires.numbered c.requires.single (slice_get_read entries (length entries) c.args.place c.in_ok-entry.entry.now refl read.3.0 read.1)
