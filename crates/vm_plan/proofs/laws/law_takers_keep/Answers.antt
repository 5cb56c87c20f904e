use Rattle.vm_plan.proofs.KeepLemmas.{takers_keep, most_falls, least_rises}
use Rattle.vm_plan.proofs.SideLemmas.{givers_take_none}
use Rattle.vm_plan.proofs.laws.law_takers_keep.Goals as goal

pub returns-clause-keep : goal.returns-clause-keep
returns-clause-keep c = λ tax limit rows givers h list. takers_keep tax rows givers h list.each_next

pub returns-clause-most_falls : goal.returns-clause-most_falls
returns-clause-most_falls c = λ tax limit rows givers h list. most_falls tax rows givers h list.each_next

pub returns-clause-least_rises : goal.returns-clause-least_rises
returns-clause-least_rises c = λ tax limit rows givers h list. least_rises tax rows givers h list.each_next

pub returns-clause-take_none : goal.returns-clause-take_none
returns-clause-take_none c = λ tax limit rows givers h list. givers_take_none tax rows givers h list.each_next
