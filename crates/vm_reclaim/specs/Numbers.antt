-- The policy of the numbers by which the code decides.
use Rattle.vm_reclaim.specs.declared.policy.Numbers.{Numbers}
use Rattle.vm_reclaim.specs.Policy.{Policy}
use Rattle.vm_tax.specs.Ratio.{hundredths}

-- the policy by these numbers
abbrev pub policy_in : Numbers → Policy
policy_in n = record { tax = hundredths n.tax; thresholds = n.thresholds; page_rate = n.page_rate; rebalance = n.rebalance }
