use Rattle.std.proofs.Common.{arith}
use Rattle.std.proofs.lemmas.List.{drop_all}
use Rattle.vm_series.specs.Records.{head_text}
use Rattle.vm_series.proofs.record_pieces.put_head.Goals as goal

pub returns-clause-written : goal.returns-clause-written
unfolding head_text
returns-clause-written c =
    let full = drop_all 240 c.args.line.now (omega arith) in
    rw (
      c.put_digits.ensures.written,
      c.put_word-state.ensures.written,
      c.put_number-free.ensures.written,
      full,
      c.as_str.ensures.word,
      c.state.ensures,
      c.from.ensures,
      c.free.ensures,
      c.from-2.ensures,
      c.epoch.ensures,
    )
