use Rattle.vm_programs.proofs.lemmas.vmsweep.Counts.{times}
use Rattle.vm_programs.proofs.vmsweep.checks.curves_of_five.Goals as goal

pub returns : goal.returns
returns c =
    times _ _ _ _ _ (times _ _ _ _ _ c.curves_of_three.ensures c.count_of.ensures c.saturating_mul.ensures) c.count_of-2.ensures
    c.saturating_mul-2.ensures
