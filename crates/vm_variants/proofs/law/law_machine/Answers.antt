use Rattle.vm_config.specs.Settings.{with_setting}
use Rattle.vm_variants.proofs.MachineLemmas.{changed-machine, machine-alike}
use Rattle.vm_variants.proofs.RefusalLemmas.{first-alike}
use Rattle.vm_variants.proofs.law.law_machine.Goals as goal

pub returns-clause-order : goal.returns-clause-order
returns-clause-order c = λ v setting n config. changed-machine v setting n config

pub returns-clause-refusals : goal.returns-clause-refusals
returns-clause-refusals c = λ v setting n config. first-alike v config (with_setting setting n config) (machine-alike setting n config)
