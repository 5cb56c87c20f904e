use Rattle.std.proofs.Common.{length, ap, arith}
use Rattle.std.proofs.lemmas.List.{drop_all}
use Rattle.vm_sim.proofs.ReadLineLemmas.{IsAscii-behind_name}
use Rattle.vm_sim.proofs.read_line.put_read.Goals as goal

pub put_hex-bytes-requires-clause-few : goal.put_hex-bytes-requires-clause-few
put_hex-bytes-requires-clause-few c = omega (arith, ap length c.as_slice.ensures)

pub returns-clause-written : goal.returns-clause-written
returns-clause-written c =
    let full = drop_all 160 c.args.line.now (omega arith) in
    rw (
      c.put_char.ensures.written,
      c.put_char-letter.ensures.written,
      c.put_char-space.ensures.written,
      c.put_number-page.ensures.written,
      c.put_number-offset.ensures.written,
      c.put_hex-bytes.ensures.written,
      c.put_char-line_feed.ensures.written,
      full,
      c.as_slice.ensures,
    )

pub returns-clause-ascii : goal.returns-clause-ascii
returns-clause-ascii c =
    let digits = rw c.as_slice.ensures at c.put_hex-bytes.ensures.ascii in
    rw (returns-clause-written c) (IsAscii-behind_name _ _ _ c.put_number-page.ensures.ascii c.put_number-offset.ensures.ascii digits)
