use Rattle.std.proofs.Common.{Ok, ◌∙◌, sym, ap, subst}
use Rattle.vm_trace.specs.Limits.{IsWithin}
use Rattle.vm_trace.specs.Spelling.{IsSpelled}
use Rattle.vm_trace.specs.Versions.{before_3}
use Rattle.vm_trace.proofs.Passed.{passed_err}
use Rattle.vm_trace.proofs.ReadIsSpelled.{spelled-step_within, IsStep-spelled}
use Rattle.vm_trace.proofs.Rows.{one_failed, one_found}
use Rattle.vm_trace.proofs.SpelledIsRead.{step_within-spelled}
use Rattle.vm_trace.proofs.parse.parse_step_within.Goals as goal

pub returns-in_err-steps-clause-exact : goal.returns-in_err-steps-clause-exact
returns-in_err-steps-clause-exact c =
    passed_err c.from_residual.result _ c.from_residual.ensures.1 ∙ one_failed c.args.pages c.args.text.now c.steps_of.result _ c.in_err-steps.was c.steps_of.ensures.steps

pub returns-in_err-steps-clause-accepts : goal.returns-in_err-steps-clause-accepts
returns-in_err-steps-clause-accepts c = λ step spells.
    let read = step_within-spelled c.args.pages c.args.text.now step spells in
    let failed = one_failed c.args.pages c.args.text.now c.steps_of.result _ c.in_err-steps.was c.steps_of.ensures.steps in
    absurd cc

pub new-requires : goal.new-requires
new-requires c =
    IsStep-spelled (before_3 c.args.pages) c.args.text.now c.first_of.result c.requires.few
    (spelled-step_within c.args.pages c.args.text.now c.first_of.result c.requires.some (one_found c.args.pages c.args.text.now c.steps_of.result c.in_ok-steps.steps c.first_of.result c.in_ok-steps.was c.steps_of.ensures.steps c.first_of.ensures))

pub returns-clause-exact : goal.returns-clause-exact
returns-clause-exact c =
    ap Ok c.new.ensures
    ∙ sym (one_found c.args.pages c.args.text.now c.steps_of.result c.in_ok-steps.steps c.first_of.result c.in_ok-steps.was c.steps_of.ensures.steps c.first_of.ensures)

pub returns-clause-within : goal.returns-clause-within
returns-clause-within c =
    subst (IsWithin c.args.pages) (sym c.new.ensures)
    (spelled-step_within c.args.pages c.args.text.now c.first_of.result c.requires.some (one_found c.args.pages c.args.text.now c.steps_of.result c.in_ok-steps.steps c.first_of.result c.in_ok-steps.was c.steps_of.ensures.steps c.first_of.ensures)).page

pub returns-clause-spelled : goal.returns-clause-spelled
returns-clause-spelled c =
    subst (IsSpelled (before_3 c.args.pages) c.args.text.now) (sym c.new.ensures)
    (spelled-step_within c.args.pages c.args.text.now c.first_of.result c.requires.some (one_found c.args.pages c.args.text.now c.steps_of.result c.in_ok-steps.steps c.first_of.result c.in_ok-steps.was c.steps_of.ensures.steps c.first_of.ensures))

pub returns-clause-accepts : goal.returns-clause-accepts
returns-clause-accepts c = λ step spells.
    ap Ok c.new.ensures
    ∙ sym (one_found c.args.pages c.args.text.now c.steps_of.result c.in_ok-steps.steps c.first_of.result c.in_ok-steps.was c.steps_of.ensures.steps c.first_of.ensures)
    ∙ step_within-spelled c.args.pages c.args.text.now step spells
