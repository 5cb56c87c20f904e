use Rattle.vm_programs.proofs.lemmas.vmsweep.Counts.{times, times-right}
use Rattle.vm_programs.proofs.vmsweep.checks.runs.Goals as goal

pub returns : goal.returns
returns c =
    times _ _ _ _ _ (times-right _ _ _ _ _ c.count_of.ensures c.curves.ensures c.saturating_mul.ensures) c.seed_count.ensures
    c.saturating_mul-2.ensures
