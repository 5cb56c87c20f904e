use Rattle.std.proofs.Common.{◌≡◌, ◌∙◌, ◌+◌, ◌++◌, List, ap, drop, map, string_bytes, subst, sym}
use Rattle.vm_reclaim.specs.Policy.{policy_of}
use Rattle.vm_host.specs.Answers.{AnswerValue}
use Rattle.vm_host.specs.Commands.{after_line, answer_to, answers_to, IsAfterSome}
use Rattle.vm_host.specs.Decisions.{decision_on_line}
use Rattle.vm_host.specs.Parts.{world_of}
use Rattle.vm_host.specs.Sound.{IsSoundWorld}
use Rattle.vm_host.specs.World.{World}
use Rattle.vm_host.proofs.LineLemmas.{sound-line}
use Rattle.vm_host.proofs.StepLemmas.{keeps-domains, step-answers, step-lines}
use Rattle.vm_host.proofs.RefusedLemmas.{one-more, refused, some-lines}
use Rattle.vm_host.proofs.obey.obey_all.Goals as goal

pub loop-line-preserved : goal.loop-line-preserved
loop-line-preserved c =
    let so_far = c.loop-line.invariant in
    let policy = policy_of c.args.parts.now.spec in
    let i = c.loop-line.line-index in
    let lines = c.args.lines.now in
    let item = c.line-item.result in
    let first = world_of c.args.parts.now in
    let old = world_of c.loop-line.parts in
    let new = world_of c.answer.new.parts in
    let same = ap policy_of so_far.kept.machine in
    let text = c.as_str.ensures.value in
    let step : new ≡ after_line policy old (string_bytes item) = c.in_ok-answer.ensures.done ∙ (λ j. after_line (same j) old (text j)) in
    let told : c.in_ok-answer.field-0 ≡ answer_to policy old (string_bytes item) (decision_on_line old (string_bytes item)) =
    c.in_ok-answer.ensures.answer ∙ (λ j. answer_to (same j) old (text j) (decision_on_line old (text j))) in
    let whole = answers_to policy first (map string_bytes lines) in
    let out = c.loop-line.answers.items in
    record {
      so_far = one-more string_bytes policy first old new lines i item c.loop-line-test.true c.line-item.is step so_far.so_far;
      done = step-lines string_bytes policy old new lines i item _ c.loop-line-test.true c.line-item.is step so_far.done;
      answers = ap (λ (answers : List AnswerValue). answers ++ answers_to policy new (map string_bytes (drop (i + 1) lines))) c.in_ok-push.ensures.items
          ∙ step-answers string_bytes policy old new lines i item out c.in_ok-answer.field-0 whole c.loop-line-test.true c.line-item.is step told so_far.answers;
      kept = keeps-domains first old new so_far.kept c.in_ok-answer.ensures.kept;
      sound = subst (λ (w : World). IsSoundWorld w) (sym step) (sound-line policy old (string_bytes item) so_far.sound);
      booked = c.in_ok-answer.ensures.booked;
    }

-- ---- memory was refused

pub returns-in_err-answer-clause-memory : goal.returns-in_err-answer-clause-memory
returns-in_err-answer-clause-memory c =
    let policy = policy_of c.args.parts.now.spec in
    let first = world_of c.args.parts.now in
    let new = world_of c.answer.new.parts in
    let lines = c.args.lines.now in
    let same = c.in_err-answer.ensures.unchanged ∙ c.loop-line.invariant.so_far in
    refused c.from_residual.result (IsAfterSome policy first (map string_bytes lines) new)
    (some-lines string_bytes policy first new lines c.loop-line.line-index same)

pub returns-in_err-push-clause-memory : goal.returns-in_err-push-clause-memory
returns-in_err-push-clause-memory c =
    let so_far = c.loop-line.invariant in
    let policy = policy_of c.args.parts.now.spec in
    let i = c.loop-line.line-index in
    let lines = c.args.lines.now in
    let item = c.line-item.result in
    let first = world_of c.args.parts.now in
    let old = world_of c.loop-line.parts in
    let new = world_of c.answer.new.parts in
    let same = ap policy_of so_far.kept.machine in
    let text = c.as_str.ensures.value in
    let step : new ≡ after_line policy old (string_bytes item) = c.in_ok-answer.ensures.done ∙ (λ j. after_line (same j) old (text j)) in
    refused c.from_residual-in_err-push.result (IsAfterSome policy first (map string_bytes lines) new)
    (some-lines string_bytes policy first new lines (i + 1) (one-more string_bytes policy first old new lines i item c.loop-line-test.true c.line-item.is step so_far.so_far))
