use Rattle.std.proofs.Common.{subst, sym}
use Rattle.std.specs.Prelude.{All}
use Rattle.std.proofs.lemmas.List.Elements.{All-append}
use Rattle.vm_trace.specs.Limits.{IsStep, IsWithin}
use Rattle.guest_cases.proofs.trace.add_steps.Goals as goal

pub returns-in-Ok-clause-within : goal.returns-in-Ok-clause-within
returns-in-Ok-clause-within c =
    let added = c.in-Ok.ensures.ok in
    subst (All (IsWithin c.args.size)) (sym added.added) (All-append (IsWithin c.args.size) c.args.trace.now added.steps c.requires.within added.within)

pub returns-in-Ok-clause-bounded : goal.returns-in-Ok-clause-bounded
returns-in-Ok-clause-bounded c =
    let added = c.in-Ok.ensures.ok in
    subst (All IsStep) (sym added.added) (All-append IsStep c.args.trace.now added.steps c.requires.bounded added.bounded)
