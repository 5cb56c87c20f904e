use Rattle.vm_tax.specs.Ratio.{hundredths}
use Rattle.vm_plan.proofs.GrantRunLemmas.{run_of_one}
use Rattle.vm_plan.proofs.grant_runs.run_length.Goals as goal

pub returns-else-eq-clause-run : goal.returns-else-eq-clause-run
returns-else-eq-clause-run c = run_of_one c.args.state c.args.thresholds.now (hundredths c.args.tax) c.args.free c.args.rows.now c.args.position c.requires.held c.requires.next
