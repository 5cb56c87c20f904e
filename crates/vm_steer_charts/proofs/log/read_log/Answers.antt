use Rattle.std.proofs.Common.{◌≡◌, List, ℕ, Ok, Err, ap, subst}
use Rattle.std.specs.Io.KnownBytes.{IsAtEnd}
use Rattle.vm_samples.specs.LogSteps.{left}
use Rattle.vm_samples.specs.Policies.{PolicyView}
use Rattle.vm_samples.specs.PolicyOf.{policy_of}
use Rattle.vm_samples.specs.Seen.{ReadsPolicy}
use Rattle.vm_steer.specs.Streams.{error_of_log, error_of_policy}
use Rattle.vm_steer_charts.specs.Reading.{FailsToRead}
use Rattle.vm_steer_charts.specs.Series.{SeriesView}
use Rattle.vm_steer_charts.proofs.FailLemmas.{passed_on}
use Rattle.vm_steer_charts.proofs.LogLemmas.{ended_behind, ends_alone, failed_behind, fails_policy, fails_reading, seen_alone, seen_behind}
use Rattle.vm_steer_charts.proofs.log.read_log.Goals as goal

-- ---- no policy is read

pub returns-in_err-is_ended-clause-failed : goal.returns-in_err-is_ended-clause-failed
returns-in_err-is_ended-clause-failed g c =
    passed_on c.from_residual.result (error_of_log c.in_err-is_ended.field-0.0) (FailsToRead (g.R.Source.remaining c.args.reader.now) (g.R.Source.has_failed c.next.new.source))
    (fails_reading c.new-log.result (g.R.Source.remaining c.args.reader.now) (g.R.Source.has_failed c.next.new.source) c.in_err-is_ended.field-0.0 c.new-log.ensures (λ is. c.in_err-is_ended.ensures.failure (ap Err is)) (λ is. c.in_err-is_ended.ensures.long (ap Err is)))
    c.from_residual.ensures.1

pub returns-in_err-policy-clause-failed : goal.returns-in_err-policy-clause-failed
returns-in_err-policy-clause-failed g c =
    let reads : ReadsPolicy {A = PolicyView} (Err c.in_err-policy.field-0.0) (policy_of c.next.new.self.block) =
    subst (λ (b : List ℕ). ReadsPolicy {A = PolicyView} (Err c.in_err-policy.field-0.0) (policy_of b)) c.block.ensures c.in_err-policy.ensures.policy in
    passed_on c.from_residual-in_err-policy.result (error_of_policy c.in_err-policy.field-0.0) (FailsToRead (g.R.Source.remaining c.args.reader.now) (g.R.Source.has_failed c.next.new.source))
    (fails_policy c.new-log.result (g.R.Source.remaining c.args.reader.now) (left c.next.new.self (g.R.Source.remaining c.next.new.source)) (g.R.Source.has_failed c.next.new.source) c.in_ok-is_ended.is_ended c.next.new.self.block c.in_err-policy.field-0.0 c.new-log.ensures c.in_ok-is_ended.ensures.gives reads)
    c.from_residual-in_err-policy.ensures.1

-- ---- a policy alone

pub returns-then-not-is_ended-clause-seen : goal.returns-then-not-is_ended-clause-seen
returns-then-not-is_ended-clause-seen g c =
    let means : policy_of c.next.new.self.block ≡ Ok c.in_ok-policy.policy =
    subst (λ (b : List ℕ). policy_of b ≡ Ok c.in_ok-policy.policy) c.block.ensures c.in_ok-policy.ensures.policy in
    seen_alone c.in_ok-is_ended.is_ended c.new-log.result (g.R.Source.remaining c.args.reader.now) (left c.next.new.self (g.R.Source.remaining c.next.new.source)) c.next.new.self.block c.in_ok-policy.policy c.new-series.result c.if-not-is_ended.true c.new-log.ensures c.in_ok-is_ended.ensures.gives c.in_ok-is_ended.ensures.short means c.new-series.ensures

pub returns-then-not-is_ended-clause-ended : goal.returns-then-not-is_ended-clause-ended
returns-then-not-is_ended-clause-ended g c =
    ends_alone c.in_ok-is_ended.is_ended c.new-log.result (g.R.Source.remaining c.args.reader.now) c.next.new.self.ahead c.next.new.self.block (g.R.Source.remaining c.next.new.source) c.if-not-is_ended.true c.new-log.ensures c.in_ok-is_ended.ensures.gives

-- ---- samples behind the policy

pub returns-in_err-take_samples-clause-failed : goal.returns-in_err-take_samples-clause-failed
returns-in_err-take_samples-clause-failed g c =
    passed_on c.from_residual-in_err-take_samples.result c.in_err-take_samples.field-0.0 (FailsToRead (g.R.Source.remaining c.args.reader.now) (g.R.Source.has_failed c.take_samples.new.reader))
    (failed_behind c.in_ok-is_ended.is_ended c.new-log.result (g.R.Source.remaining c.args.reader.now) (left c.next.new.self (g.R.Source.remaining c.next.new.source)) c.next.new.self.block c.if-not-is_ended.false c.new-log.ensures c.in_ok-is_ended.ensures.gives c.in_ok-is_ended.ensures.short
    (g.R.Source.has_failed c.take_samples.new.reader) c.in_err-take_samples.field-0.0 c.in_err-take_samples.ensures.failed)
    c.from_residual-in_err-take_samples.ensures.1

pub returns-clause-seen : goal.returns-clause-seen
returns-clause-seen g c =
    let means : policy_of c.next.new.self.block ≡ Ok c.in_ok-policy.policy =
    subst (λ (b : List ℕ). policy_of b ≡ Ok c.in_ok-policy.policy) c.block.ensures c.in_ok-policy.ensures.policy in
    seen_behind c.in_ok-is_ended.is_ended c.new-log.result (g.R.Source.remaining c.args.reader.now) (left c.next.new.self (g.R.Source.remaining c.next.new.source)) c.next.new.self.block c.if-not-is_ended.false c.new-log.ensures c.in_ok-is_ended.ensures.gives c.in_ok-is_ended.ensures.short
    c.in_ok-policy.policy c.new-series.result.steering c.take_samples.new.series means (ap (λ (s : SeriesView). s.steering) c.new-series.ensures) c.in_ok-take_samples.ensures.taken

pub returns-clause-ended : goal.returns-clause-ended
returns-clause-ended g c =
    ended_behind c.in_ok-is_ended.is_ended c.new-log.result (g.R.Source.remaining c.args.reader.now) (left c.next.new.self (g.R.Source.remaining c.next.new.source)) c.next.new.self.block c.if-not-is_ended.false c.new-log.ensures c.in_ok-is_ended.ensures.gives c.in_ok-is_ended.ensures.short
    (IsAtEnd (g.R.Source.remaining c.take_samples.new.reader)) c.in_ok-take_samples.ensures.ended
