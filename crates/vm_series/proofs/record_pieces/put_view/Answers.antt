use Rattle.std.proofs.Common.{arith}
use Rattle.std.proofs.lemmas.List.{drop_all}
use Rattle.vm_series.specs.Records.{view_text}
use Rattle.vm_series.proofs.record_pieces.put_view.Goals as goal

pub returns-clause-written : goal.returns-clause-written
unfolding view_text
returns-clause-written c =
    let full = drop_all 240 c.args.line.now (omega arith) in
    rw (
      c.put_number.ensures.written,
      c.put_number-held.ensures.written,
      c.put_number-resident.ensures.written,
      c.put_number-swapped.ensures.written,
      c.put_number-balloon.ensures.written,
      c.put_number-active.ensures.written,
      c.put_number-demand.ensures.written,
      c.put_flag-blocked.ensures.written,
      c.put_optional-stalled.ensures.written,
      c.put_number-evicted.ensures.written,
      c.put_number-done.ensures.written,
      c.put_byte-end.ensures.written,
      c.put_byte-line_feed.ensures.written,
      full,
      c.from.ensures,
      c.from-2.ensures,
      c.from-3.ensures,
      c.from-4.ensures,
      c.from-5.ensures,
      c.from-6.ensures,
      c.from-7.ensures,
      c.evicted_of.ensures,
    )
