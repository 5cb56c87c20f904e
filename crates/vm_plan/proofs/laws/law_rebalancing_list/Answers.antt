use Rattle.vm_plan.proofs.RebalanceLemmas.{rebalancing_list-meets, rebalancing_list-only}
use Rattle.vm_plan.proofs.laws.law_rebalancing_list.Goals as goal

pub returns-clause-meets : goal.returns-clause-meets
returns-clause-meets c = rebalancing_list-meets

pub returns-clause-no_other : goal.returns-clause-no_other
returns-clause-no_other c = rebalancing_list-only
