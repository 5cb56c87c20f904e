use Rattle.vm_steer.specs.declared.steer_error.SteerError.TheVariants.{Memory}
use Rattle.vm_steer_charts.specs.Draws.{FailsToDraw}
use Rattle.vm_steer_charts.proofs.FailLemmas.{fails_memory, fails_unread, kept_by, passed_on, told_read, unfailed, unused}
use Rattle.vm_steer_charts.proofs.stream.draw.Goals as goal
use Rattle.std.proofs.Common.{refl}

-- ---- the log isn't read

pub returns-in_err-series-clause-failed : goal.returns-in_err-series-clause-failed
returns-in_err-series-clause-failed g c =
    passed_on c.from_residual.result c.in_err-series.field-0.0 (FailsToDraw (g.R.Source.remaining c.args.reader.now) (g.W.Sink.contents c.args.writer.now) (g.W.Sink.contents c.args.writer.now) (g.R.Source.has_failed c.read_log.new.reader) (g.W.Sink.has_failed c.args.writer.now))
    (fails_unread (g.R.Source.remaining c.args.reader.now) (g.W.Sink.contents c.args.writer.now) (g.R.Source.has_failed c.read_log.new.reader) (g.W.Sink.has_failed c.args.writer.now) c.in_err-series.field-0.0 c.in_err-series.ensures.failed)
    c.from_residual.ensures.1

pub returns-in_err-series-clause-reader_failed : goal.returns-in_err-series-clause-reader_failed
returns-in_err-series-clause-reader_failed g c =
    told_read c.from_residual.result c.in_err-series.field-0.0 (g.R.Source.has_failed c.args.reader.now) (g.R.Source.has_failed c.read_log.new.reader) c.from_residual.ensures.1 c.in_err-series.ensures.reads

pub returns-in_err-series-clause-writer_failed : goal.returns-in_err-series-clause-writer_failed
returns-in_err-series-clause-writer_failed g c = unused (g.W.Sink.has_failed c.args.writer.now)

-- ---- no drawing

pub returns-in_err-text-clause-failed : goal.returns-in_err-text-clause-failed
returns-in_err-text-clause-failed g c =
    passed_on c.from_residual-in_err-text.result Memory (FailsToDraw (g.R.Source.remaining c.args.reader.now) (g.W.Sink.contents c.args.writer.now) (g.W.Sink.contents c.args.writer.now) (g.R.Source.has_failed c.read_log.new.reader) (g.W.Sink.has_failed c.args.writer.now))
    (fails_memory (g.R.Source.remaining c.args.reader.now) (g.W.Sink.contents c.args.writer.now) (g.R.Source.has_failed c.read_log.new.reader) (g.W.Sink.has_failed c.args.writer.now) Memory refl)
    c.from_residual-in_err-text.ensures.1

pub returns-in_err-text-clause-reader_failed : goal.returns-in_err-text-clause-reader_failed
returns-in_err-text-clause-reader_failed g c =
    unfailed (g.R.Source.has_failed c.args.reader.now) (g.R.Source.has_failed c.read_log.new.reader)
    (kept_by c.in_ok-series.series (g.R.Source.has_failed c.args.reader.now) (g.R.Source.has_failed c.read_log.new.reader) c.in_ok-series.ensures.reads)

pub returns-in_err-text-clause-writer_failed : goal.returns-in_err-text-clause-writer_failed
returns-in_err-text-clause-writer_failed g c = unused (g.W.Sink.has_failed c.args.writer.now)
