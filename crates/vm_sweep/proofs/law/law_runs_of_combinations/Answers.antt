use Rattle.vm_sweep.proofs.CurveLemmas.{runs-of_combinations}
use Rattle.vm_sweep.proofs.law.law_runs_of_combinations.Goals as goal

pub returns : goal.returns
returns c lists config = runs-of_combinations lists config
