use Rattle.vm_tax.specs.Ratio.{hundredths}
use Rattle.vm_plan.specs.PlanRow.{rows_of}
use Rattle.vm_plan.proofs.RevocationRunLemmas.{fall_of_one}
use Rattle.vm_plan.proofs.revocation_runs.fall_length.Goals as goal

pub returns-else-before-ge-FEW-clause-run : goal.returns-else-before-ge-FEW-clause-run
returns-else-before-ge-FEW-clause-run c = fall_of_one (hundredths c.args.tax) (rows_of c.args.rows.now) c.args.position c.requires.least
