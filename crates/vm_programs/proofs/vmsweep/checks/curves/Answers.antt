use Rattle.std.proofs.Common.{◌∙◌, ◌-◌, ◌^◌, List, ap, min}
use Rattle.vm_sweep.specs.Combinations.{NamedList}
use Rattle.vm_programs.specs.vmsweep.Lists.{count_each}
use Rattle.vm_programs.proofs.lemmas.vmsweep.Counts.{times-held}
use Rattle.vm_programs.proofs.vmsweep.checks.curves.Goals as goal

pub returns : goal.returns
returns c =
    times-held _ _ _ _ _
    (times-held _ _ _ _ _ c.curves_of_five.ensures
    (c.count_each.ensures ∙ ap (λ (lists : List NamedList). min (count_each lists) (2 ^ 64 - 1)) c.deref.ensures.value)
    c.saturating_mul.ensures)
    (c.count_each-2.ensures ∙ ap (λ (lists : List NamedList). min (count_each lists) (2 ^ 64 - 1)) c.deref-2.ensures.value)
    c.saturating_mul-2.ensures
