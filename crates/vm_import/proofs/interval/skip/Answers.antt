use Rattle.std.proofs.Common.{rules, inr, arith}
use Rattle.vm_import.specs.Reading.{left, length_in_all}
use Rattle.vm_import.specs.Errors.{error_of}
use Rattle.vm_import.specs.Failing.{FailsToSkip}
use Rattle.vm_import.proofs.ComposedLemmas.{Stays-then}
use Rattle.vm_import.proofs.ReadLemmas.{err-same, passed-on, skips-end, skips-fails, skips-step}
use Rattle.vm_import.proofs.interval.skip.Goals as goal

pub returns-in_err-next_access-clause-failed : goal.returns-in_err-next_access-clause-failed
returns-in_err-next_access-clause-failed g c =
    passed-on c.from_residual.result (error_of c.in_err-next_access.field-0.0)
    (FailsToSkip c.args.count (left c.args.log.now (g.R.Source.remaining c.args.reader.now))
    (length_in_all c.args.log.now (g.R.Source.remaining c.args.reader.now)) (g.R.Source.has_failed c.next_access.new.source))
    (skips-fails c.loop-skipped.skipped c.args.count (left c.args.log.now (g.R.Source.remaining c.args.reader.now))
    (left c.loop-skipped.log (g.R.Source.remaining c.loop-skipped.reader)) c.in_err-next_access.field-0.0
    (length_in_all c.args.log.now (g.R.Source.remaining c.args.reader.now))
    (length_in_all c.loop-skipped.log (g.R.Source.remaining c.loop-skipped.reader)) (g.R.Source.has_failed c.next_access.new.source)
    (omega arith) c.loop-skipped.invariant.skips c.loop-skipped.invariant.length
    (λ line fault is. c.in_err-next_access.ensures.fault line fault (err-same _ _ is))
    (λ is. c.in_err-next_access.ensures.failure (err-same _ _ is))
    (λ is. inr (c.in_err-next_access.ensures.long (err-same _ _ is))))
    c.from_residual.ensures.1

pub loop-skipped-preserved : goal.loop-skipped-preserved
loop-skipped-preserved g c = record {
  skips =
      skips-step c.loop-skipped.skipped _ (left c.loop-skipped.log (g.R.Source.remaining c.loop-skipped.reader)) _ c.in_ok-next_access.field-0
      c.if-is_none.ensures c.loop-skipped.invariant.skips c.in_ok-next_access.ensures.gives;
  length = Stays-then _ _ _ c.loop-skipped.invariant.length c.in_ok-next_access.ensures.length;
  stays = search rules;
}

pub returns-then-is_none-clause-skipped : goal.returns-then-is_none-clause-skipped
returns-then-is_none-clause-skipped g c =
    skips-end c.loop-skipped.skipped c.args.count _ (left c.loop-skipped.log (g.R.Source.remaining c.loop-skipped.reader)) _
    c.in_ok-next_access.field-0 c.if-is_none.ensures (omega arith) c.loop-skipped.invariant.skips c.in_ok-next_access.ensures.gives
