use Rattle.vm_tax.specs.Ratio.{hundredths}
use Rattle.vm_plan.specs.PlanRow.{rows_of}
use Rattle.vm_plan.proofs.FlowLemmas.{flow_of_one}
use Rattle.vm_plan.proofs.rebalancing_runs.flow_length.Goals as goal

pub returns-else-before-ge-FEW-clause-flow : goal.returns-else-before-ge-FEW-clause-flow
returns-else-before-ge-FEW-clause-flow c = flow_of_one (hundredths c.args.tax) (rows_of c.args.rows.now) c.args.transfer.giver c.args.transfer.taker c.requires.next
