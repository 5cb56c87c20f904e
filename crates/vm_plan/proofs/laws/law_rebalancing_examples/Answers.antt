use Rattle.std.proofs.Common.{refl}
use Rattle.vm_tax.specs.Offers.{best_offer}
use Rattle.vm_tax.specs.Ratio.{adjusted_ratio}
use Rattle.vm_plan.specs.Rebalancing.{rebalancing_list}
use Rattle.vm_plan.proofs.laws.law_rebalancing_examples.Goals as goal

pub returns-clause-equal : goal.returns-clause-equal
unfolding rebalancing_list best_offer adjusted_ratio
returns-clause-equal c = refl

pub returns-clause-one_page_more : goal.returns-clause-one_page_more
unfolding rebalancing_list best_offer adjusted_ratio
returns-clause-one_page_more c = refl

pub returns-clause-floors : goal.returns-clause-floors
unfolding rebalancing_list best_offer adjusted_ratio
returns-clause-floors c = refl

pub returns-clause-limit : goal.returns-clause-limit
unfolding rebalancing_list best_offer adjusted_ratio
returns-clause-limit c = refl

pub returns-clause-straight_back : goal.returns-clause-straight_back
unfolding rebalancing_list best_offer adjusted_ratio
returns-clause-straight_back c = refl

pub returns-clause-no_demand : goal.returns-clause-no_demand
unfolding rebalancing_list best_offer adjusted_ratio
returns-clause-no_demand c = refl
