use Rattle.std.proofs.Common.{◌∙◌, All, length, ap, subst}
use Rattle.vm_import.specs.WorkingSets.{IsWithin, WorkingSetView}
use Rattle.vm_import.proofs.working_set.WorkingSet.kept.Goals as goal

pub returns-clause-kept : goal.returns-clause-kept
returns-clause-kept c = c.as_slice.ensures.value ∙ ap (λ (set : WorkingSetView). set.kept) c.self.view_is

pub returns-clause-within : goal.returns-clause-within
returns-clause-within c =
    subst (λ (set : WorkingSetView). All (IsWithin (length set.pages)) set.kept) c.self.view_is c.self.invariant.marks_are.within
