use Rattle.std.proofs.Common.{sym, subst, ◌∙◌, inl, inr}
use Rattle.vm_trace.proofs.Gathered.{Gathers, gathers_fault, gathers_all}
use Rattle.vm_trace.proofs.parse.steps_of.Goals as goal

pub returns-then-is_empty-clause-steps : goal.returns-then-is_empty-clause-steps
returns-then-is_empty-clause-steps c =
    sym (gathers_fault c.args.limits c.args.text.now c.loop-left.words c.loop-left.count c.in-Some.text_left c.first_word.result.0 c.first_word.result.1
    (subst (λ left. Gathers c.args.text.now c.loop-left.words c.loop-left.count left) c.in-Some.is c.loop-left.invariant) c.first_word.ensures
    (elim c.then-is_empty.either [ inl empty ↦ inl (sym c.is_empty.ensures ∙ empty) | inr full ↦ inr full.1 ]))

pub returns-clause-steps : goal.returns-clause-steps
returns-clause-steps c =
    c.steps_of_words.ensures.steps
    ∙ sym (gathers_all c.args.limits c.args.text.now c.loop-left.words c.loop-left.count
    (subst (λ left. Gathers c.args.text.now c.loop-left.words c.loop-left.count left) c.in_default.is c.loop-left.invariant))
