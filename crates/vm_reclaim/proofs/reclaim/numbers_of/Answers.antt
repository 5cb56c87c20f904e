use Rattle.std.proofs.Common.{ap, ◌∙◌}
use Rattle.vm_plan.specs.declared.thresholds.Thresholds.{Thresholds}
use Rattle.vm_reclaim.specs.Policy.{Policy, policy_of}
use Rattle.vm_tax.specs.Ratio.{hundredths}
use Rattle.vm_reclaim.proofs.reclaim.numbers_of.Goals as goal

pub returns : goal.returns
returns c =
    let read = ap {B = Policy} (λ (t : Thresholds). record { tax = hundredths c.spec.inside.tax; thresholds = t; page_rate = c.spec.inside.page_rate; rebalance = c.spec.inside.rebalance }) c.of.ensures in
    read ∙ ap policy_of c.spec.view_is
