use Rattle.std.proofs.Common.{◌≡◌, ◌∙◌, List, ℕ, Ok, Err, ap, refl, subst}
use Rattle.vm_recorded.specs.Texts.{text_of}
use Rattle.vm_samples.specs.LogSteps.{left}
use Rattle.vm_samples.specs.Policies.{PolicyView}
use Rattle.vm_samples.specs.PolicyOf.{policy_of}
use Rattle.vm_samples.specs.Seen.{ReadsPolicy}
use Rattle.vm_log.specs.Errors.{error_of_policy}
use Rattle.vm_log.specs.Growing.{hosted_in}
use Rattle.vm_log.specs.Streams.{Fails}
use Rattle.vm_log.proofs.CourseLemmas.{passed_on}
use Rattle.vm_log.proofs.PlanLemmas.{fails_policy, fails_taking, plans, whole}
use Rattle.vm_log.proofs.stream.plan_log.Goals as goal

pub returns-in_err-policy-clause-failed : goal.returns-in_err-policy-clause-failed
returns-in_err-policy-clause-failed g c =
    let reads : ReadsPolicy {A = PolicyView} (Err c.in_err-policy.field-0.0) (policy_of c.next.new.self.block) =
    subst (λ (b : List ℕ). ReadsPolicy {A = PolicyView} (Err c.in_err-policy.field-0.0) (policy_of b)) c.block.ensures c.in_err-policy.ensures.policy in
    passed_on c.from_residual-in_err-policy.result (error_of_policy c.in_err-policy.field-0.0) (Fails c.args.every (g.R.Source.remaining c.args.reader.now) (g.W.Sink.contents c.args.writer.now) (g.W.Sink.contents c.args.writer.now) (g.R.Source.has_failed c.next.new.source) (g.W.Sink.has_failed c.args.writer.now))
    (fails_policy c.args.every c.new-log.result (g.R.Source.remaining c.args.reader.now) (g.W.Sink.contents c.args.writer.now) (left c.next.new.self (g.R.Source.remaining c.next.new.source)) (g.R.Source.has_failed c.next.new.source) (g.W.Sink.has_failed c.args.writer.now) c.in_ok-is_ended.is_ended c.next.new.self.block c.in_err-policy.field-0.0 c.new-log.ensures c.in_ok-is_ended.ensures.gives reads)
    c.from_residual-in_err-policy.ensures.1

pub returns-in_err-limit-clause-failed : goal.returns-in_err-limit-clause-failed
returns-in_err-limit-clause-failed g c =
    let means : policy_of c.next.new.self.block ≡ Ok c.in_ok-policy.policy =
    subst (λ (b : List ℕ). policy_of b ≡ Ok c.in_ok-policy.policy) c.block.ensures c.in_ok-policy.ensures.policy in
    passed_on c.from_residual-in_err-limit.result c.in_err-limit.field-0.0 (Fails c.args.every (g.R.Source.remaining c.args.reader.now) (g.W.Sink.contents c.args.writer.now) (g.W.Sink.contents c.args.writer.now) (g.R.Source.has_failed c.take_all.new.reader) (g.W.Sink.has_failed c.args.writer.now))
    (fails_taking c.args.every c.new-log.result (g.R.Source.remaining c.args.reader.now) (g.W.Sink.contents c.args.writer.now) (left c.next.new.self (g.R.Source.remaining c.next.new.source)) (g.R.Source.has_failed c.take_all.new.reader) (g.W.Sink.has_failed c.args.writer.now) c.in_ok-is_ended.is_ended c.next.new.self.block c.in_ok-policy.policy c.in_err-limit.field-0.0
    c.new-log.ensures c.in_err-limit.ensures.behind c.in_ok-is_ended.ensures.gives c.in_ok-is_ended.ensures.short means c.in_err-limit.ensures.failed)
    c.from_residual-in_err-limit.ensures.1

pub returns-clause-plans : goal.returns-clause-plans
returns-clause-plans g c =
    let means : policy_of c.next.new.self.block ≡ Ok c.in_ok-policy.policy =
    subst (λ (b : List ℕ). policy_of b ≡ Ok c.in_ok-policy.policy) c.block.ensures c.in_ok-policy.ensures.policy in
    plans c.args.every (g.R.Source.remaining c.args.reader.now) (g.W.Sink.contents c.args.writer.now) (g.W.Sink.contents c.write_text.new.writer) c.in_ok-policy.policy c.take_all.new.course c.in_ok-limit.limit c.deref.result.now
    (whole c.args.every c.new-log.result (g.R.Source.remaining c.args.reader.now) (left c.next.new.self (g.R.Source.remaining c.next.new.source)) c.in_ok-is_ended.is_ended c.next.new.self.block c.in_ok-policy.policy (record { steering = c.new.result; recording = c.new-2.result; bad = 0 }) c.take_all.new.course c.in_ok-limit.limit
    c.new-log.ensures c.in_ok-is_ended.ensures.gives means c.new.ensures refl c.in_ok-limit.ensures.taken c.in_ok-limit.ensures.alone)
    (c.deref.ensures.value ∙ c.in_ok-text.ensures ∙ ap text_of (c.host_of.ensures ∙ ap (λ (q : PolicyView). hosted_in q c.take_all.new.course.recording) c.policy.ensures))
    c.in_ok-write_text.ensures.written
