use Rattle.std.proofs.Common.{List, ℕ, ◌∙◌, ap, arith}
use Rattle.vm_host.specs.Answers.{AnswerValue}
use Rattle.vm_tally.specs.GuestEntries.{entries_of, revoked_for}
use Rattle.vm_tally.specs.GuestTally.{each_with_more}
use Rattle.vm_tally.proofs.ColumnLemmas.{list-end, list-more}
use Rattle.vm_tally.proofs.guest_moves.add_revoked_for.Goals as goal

pub loop-answer-preserved : goal.loop-answer-preserved
loop-answer-preserved c =
    let old = c.loop-answer.column in
    list-more revoked_for c.args.answers.now c.loop-answer.answer-index c.answer-item.result old c.add_plan.new.column _ c.loop-answer-test.true
    (c.add_plan.ensures ∙ ap (λ (moves : List ℕ). each_with_more (λ p. entries_of p moves) old) c.revocations.ensures
    ∙ ap (λ (answer : AnswerValue). each_with_more (λ p. revoked_for p answer) old) c.answer-item.is) c.loop-answer.invariant

pub returns : goal.returns
returns c = list-end revoked_for c.args.answers.now c.loop-answer.answer-index c.loop-answer.column _ (omega arith) c.loop-answer.invariant
