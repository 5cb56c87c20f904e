use Rattle.std.proofs.Common.{◌≡◌, List, ℕ, Ok, Err, ap, subst}
use Rattle.std.specs.Io.KnownBytes.{Appends, IsAtEnd}
use Rattle.vm_samples.specs.LogSteps.{left}
use Rattle.vm_samples.specs.Policies.{PolicyView}
use Rattle.vm_samples.specs.PolicyOf.{policy_of}
use Rattle.vm_samples.specs.Seen.{ReadsPolicy}
use Rattle.vm_steer.specs.declared.steer_error.SteerError.TheVariants.{Write}
use Rattle.vm_steer.specs.Fold.{header_in}
use Rattle.vm_steer.specs.Streams.{error_of_log, error_of_policy, Fails}
use Rattle.vm_steer.proofs.FailLemmas.{kept_by, not_failed, passed_on, told_later, told_read, unfailed, unused}
use Rattle.vm_steer.proofs.WholeLemmas.{ended_behind, ends_alone, failed_behind, fails_header, fails_policy, fails_reading, steers_alone, steers_behind}
use Rattle.vm_streams.specs.Streams.{AppendsFront}
use Rattle.vm_steer.proofs.stream.steer.Goals as goal

-- ---- no policy is read

pub returns-in_err-is_ended-clause-failed : goal.returns-in_err-is_ended-clause-failed
returns-in_err-is_ended-clause-failed g c =
    passed_on c.from_residual.result (error_of_log c.in_err-is_ended.field-0.0) (Fails c.args.form (g.R.Source.remaining c.args.reader.now) (g.W.Sink.contents c.args.writer.now) (g.W.Sink.contents c.args.writer.now) (g.R.Source.has_failed c.next.new.source) (g.W.Sink.has_failed c.args.writer.now))
    (fails_reading c.args.form c.new-log.result (g.R.Source.remaining c.args.reader.now) (g.W.Sink.contents c.args.writer.now) (g.R.Source.has_failed c.next.new.source) (g.W.Sink.has_failed c.args.writer.now) c.in_err-is_ended.field-0.0 c.new-log.ensures (λ is. c.in_err-is_ended.ensures.failure (ap Err is)) (λ is. c.in_err-is_ended.ensures.long (ap Err is)))
    c.from_residual.ensures.1

pub returns-in_err-is_ended-clause-reader_failed : goal.returns-in_err-is_ended-clause-reader_failed
returns-in_err-is_ended-clause-reader_failed g c =
    told_read c.from_residual.result c.in_err-is_ended.field-0.0 (g.R.Source.has_failed c.args.reader.now) (g.R.Source.has_failed c.next.new.source) c.from_residual.ensures.1 c.in_err-is_ended.ensures.stays

pub returns-in_err-is_ended-clause-writer_failed : goal.returns-in_err-is_ended-clause-writer_failed
returns-in_err-is_ended-clause-writer_failed g c = unused (g.W.Sink.has_failed c.args.writer.now)

pub returns-in_err-policy-clause-failed : goal.returns-in_err-policy-clause-failed
returns-in_err-policy-clause-failed g c =
    let reads : ReadsPolicy {A = PolicyView} (Err c.in_err-policy.field-0.0) (policy_of c.next.new.self.block) =
    subst (λ (b : List ℕ). ReadsPolicy {A = PolicyView} (Err c.in_err-policy.field-0.0) (policy_of b)) c.block.ensures c.in_err-policy.ensures.policy in
    passed_on c.from_residual-in_err-policy.result (error_of_policy c.in_err-policy.field-0.0) (Fails c.args.form (g.R.Source.remaining c.args.reader.now) (g.W.Sink.contents c.args.writer.now) (g.W.Sink.contents c.args.writer.now) (g.R.Source.has_failed c.next.new.source) (g.W.Sink.has_failed c.args.writer.now))
    (fails_policy c.args.form c.new-log.result (g.R.Source.remaining c.args.reader.now) (g.W.Sink.contents c.args.writer.now) (left c.next.new.self (g.R.Source.remaining c.next.new.source)) (g.R.Source.has_failed c.next.new.source) (g.W.Sink.has_failed c.args.writer.now) c.in_ok-is_ended.is_ended c.next.new.self.block c.in_err-policy.field-0.0 c.new-log.ensures c.in_ok-is_ended.ensures.gives reads)
    c.from_residual-in_err-policy.ensures.1

pub returns-in_err-policy-clause-reader_failed : goal.returns-in_err-policy-clause-reader_failed
returns-in_err-policy-clause-reader_failed g c =
    unfailed c.in_ok-is_ended.is_ended (g.R.Source.has_failed c.args.reader.now) (g.R.Source.has_failed c.next.new.source) c.in_ok-is_ended.ensures.stays

pub returns-in_err-policy-clause-writer_failed : goal.returns-in_err-policy-clause-writer_failed
returns-in_err-policy-clause-writer_failed g c = unused (g.W.Sink.has_failed c.args.writer.now)

-- ---- the header isn't written

pub returns-in_err-write_text-clause-failed : goal.returns-in_err-write_text-clause-failed
returns-in_err-write_text-clause-failed g c =
    let means : policy_of c.next.new.self.block ≡ Ok c.in_ok-policy.policy =
    subst (λ (b : List ℕ). policy_of b ≡ Ok c.in_ok-policy.policy) c.block.ensures c.in_ok-policy.ensures.policy in
    let front : AppendsFront (g.W.Sink.contents c.args.writer.now) (g.W.Sink.contents c.write_text.new.writer) (header_in c.args.form) =
    subst (λ (l : List ℕ). AppendsFront (g.W.Sink.contents c.args.writer.now) (g.W.Sink.contents c.write_text.new.writer) l) c.header.ensures c.in_err-write_text.ensures.front in
    passed_on c.from_residual-in_err-write_text.result Write (Fails c.args.form (g.R.Source.remaining c.args.reader.now) (g.W.Sink.contents c.args.writer.now) (g.W.Sink.contents c.write_text.new.writer) (g.R.Source.has_failed c.next.new.source) (g.W.Sink.has_failed c.write_text.new.writer))
    (fails_header c.args.form c.new-log.result (g.R.Source.remaining c.args.reader.now) (g.W.Sink.contents c.args.writer.now) (g.W.Sink.contents c.write_text.new.writer) (left c.next.new.self (g.R.Source.remaining c.next.new.source)) (g.R.Source.has_failed c.next.new.source) (g.W.Sink.has_failed c.write_text.new.writer) c.in_ok-is_ended.is_ended c.next.new.self.block c.in_ok-policy.policy c.new-log.ensures c.in_ok-is_ended.ensures.gives means front c.in_err-write_text.ensures.failure)
    c.from_residual-in_err-write_text.ensures.1

pub returns-in_err-write_text-clause-reader_failed : goal.returns-in_err-write_text-clause-reader_failed
returns-in_err-write_text-clause-reader_failed g c =
    unfailed c.in_ok-is_ended.is_ended (g.R.Source.has_failed c.args.reader.now) (g.R.Source.has_failed c.next.new.source) c.in_ok-is_ended.ensures.stays

-- ---- a policy alone

pub returns-then-not-is_ended-clause-steers : goal.returns-then-not-is_ended-clause-steers
returns-then-not-is_ended-clause-steers g c =
    let means : policy_of c.next.new.self.block ≡ Ok c.in_ok-policy.policy =
    subst (λ (b : List ℕ). policy_of b ≡ Ok c.in_ok-policy.policy) c.block.ensures c.in_ok-policy.ensures.policy in
    let header : Appends (g.W.Sink.contents c.args.writer.now) (g.W.Sink.contents c.write_text.new.writer) (header_in c.args.form) =
    subst (λ (l : List ℕ). Appends (g.W.Sink.contents c.args.writer.now) (g.W.Sink.contents c.write_text.new.writer) l) c.header.ensures c.in_ok-write_text.ensures.written in
    steers_alone c.args.form c.in_ok-is_ended.is_ended c.new-log.result (g.R.Source.remaining c.args.reader.now) (g.W.Sink.contents c.args.writer.now) (g.W.Sink.contents c.write_text.new.writer) (left c.next.new.self (g.R.Source.remaining c.next.new.source)) c.next.new.self.block c.in_ok-policy.policy c.if-not-is_ended.true c.new-log.ensures c.in_ok-is_ended.ensures.gives c.in_ok-is_ended.ensures.short means header

pub returns-then-not-is_ended-clause-ended : goal.returns-then-not-is_ended-clause-ended
returns-then-not-is_ended-clause-ended g c =
    ends_alone c.in_ok-is_ended.is_ended c.new-log.result (g.R.Source.remaining c.args.reader.now) c.next.new.self.ahead c.next.new.self.block (g.R.Source.remaining c.next.new.source) c.if-not-is_ended.true c.new-log.ensures c.in_ok-is_ended.ensures.gives

pub returns-then-not-is_ended-clause-reader_failed : goal.returns-then-not-is_ended-clause-reader_failed
returns-then-not-is_ended-clause-reader_failed g c =
    unfailed c.in_ok-is_ended.is_ended (g.R.Source.has_failed c.args.reader.now) (g.R.Source.has_failed c.next.new.source) c.in_ok-is_ended.ensures.stays

pub returns-then-not-is_ended-clause-writer_failed : goal.returns-then-not-is_ended-clause-writer_failed
returns-then-not-is_ended-clause-writer_failed g c =
    not_failed (g.W.Sink.has_failed c.args.writer.now) (g.W.Sink.has_failed c.write_text.new.writer) c.in_ok-write_text.ensures.stays

-- ---- samples behind the policy

pub returns-clause-steers : goal.returns-clause-steers
returns-clause-steers g c =
    let means : policy_of c.next.new.self.block ≡ Ok c.in_ok-policy.policy =
    subst (λ (b : List ℕ). policy_of b ≡ Ok c.in_ok-policy.policy) c.block.ensures c.in_ok-policy.ensures.policy in
    let header : Appends (g.W.Sink.contents c.args.writer.now) (g.W.Sink.contents c.write_text.new.writer) (header_in c.args.form) =
    subst (λ (l : List ℕ). Appends (g.W.Sink.contents c.args.writer.now) (g.W.Sink.contents c.write_text.new.writer) l) c.header.ensures c.in_ok-write_text.ensures.written in
    steers_behind c.args.form c.take_samples.result c.in_ok-is_ended.is_ended c.new-log.result c.new-steering.result c.in_ok-policy.policy (g.R.Source.remaining c.args.reader.now) (left c.next.new.self (g.R.Source.remaining c.next.new.source)) c.next.new.self.block c.if-not-is_ended.false c.new-log.ensures c.new-steering.ensures c.in_ok-is_ended.ensures.gives c.in_ok-is_ended.ensures.short means
    (g.W.Sink.contents c.args.writer.now) (g.W.Sink.contents c.write_text.new.writer) (g.W.Sink.contents c.take_samples.new.writer) header c.take_samples.ensures.taken

pub returns-clause-ended : goal.returns-clause-ended
returns-clause-ended g c =
    let means : policy_of c.next.new.self.block ≡ Ok c.in_ok-policy.policy =
    subst (λ (b : List ℕ). policy_of b ≡ Ok c.in_ok-policy.policy) c.block.ensures c.in_ok-policy.ensures.policy in
    ended_behind c.args.form c.take_samples.result c.in_ok-is_ended.is_ended c.new-log.result c.new-steering.result c.in_ok-policy.policy (g.R.Source.remaining c.args.reader.now) (left c.next.new.self (g.R.Source.remaining c.next.new.source)) c.next.new.self.block c.if-not-is_ended.false c.new-log.ensures c.new-steering.ensures c.in_ok-is_ended.ensures.gives c.in_ok-is_ended.ensures.short means
    (IsAtEnd (g.R.Source.remaining c.take_samples.new.reader)) c.take_samples.ensures.ended

pub returns-clause-failed : goal.returns-clause-failed
returns-clause-failed g c =
    let means : policy_of c.next.new.self.block ≡ Ok c.in_ok-policy.policy =
    subst (λ (b : List ℕ). policy_of b ≡ Ok c.in_ok-policy.policy) c.block.ensures c.in_ok-policy.ensures.policy in
    let header : Appends (g.W.Sink.contents c.args.writer.now) (g.W.Sink.contents c.write_text.new.writer) (header_in c.args.form) =
    subst (λ (l : List ℕ). Appends (g.W.Sink.contents c.args.writer.now) (g.W.Sink.contents c.write_text.new.writer) l) c.header.ensures c.in_ok-write_text.ensures.written in
    failed_behind c.args.form c.take_samples.result c.in_ok-is_ended.is_ended c.new-log.result c.new-steering.result c.in_ok-policy.policy (g.R.Source.remaining c.args.reader.now) (left c.next.new.self (g.R.Source.remaining c.next.new.source)) c.next.new.self.block c.if-not-is_ended.false c.new-log.ensures c.new-steering.ensures c.in_ok-is_ended.ensures.gives c.in_ok-is_ended.ensures.short means
    (g.W.Sink.contents c.args.writer.now) (g.W.Sink.contents c.write_text.new.writer) (g.W.Sink.contents c.take_samples.new.writer) (g.R.Source.has_failed c.take_samples.new.reader) (g.W.Sink.has_failed c.take_samples.new.writer) header c.take_samples.ensures.failed

pub returns-clause-reader_failed : goal.returns-clause-reader_failed
returns-clause-reader_failed g c =
    told_later (g.R.Source.has_failed c.args.reader.now) (g.R.Source.has_failed c.next.new.source) (g.R.Source.has_failed c.take_samples.new.reader) c.take_samples.ensures.reads
    (kept_by c.in_ok-is_ended.is_ended (g.R.Source.has_failed c.args.reader.now) (g.R.Source.has_failed c.next.new.source) c.in_ok-is_ended.ensures.stays)

pub returns-clause-writer_failed : goal.returns-clause-writer_failed
returns-clause-writer_failed g c =
    told_later (g.W.Sink.has_failed c.args.writer.now) (g.W.Sink.has_failed c.write_text.new.writer) (g.W.Sink.has_failed c.take_samples.new.writer) c.take_samples.ensures.writes c.in_ok-write_text.ensures.stays
