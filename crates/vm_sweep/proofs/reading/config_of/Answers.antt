use Rattle.vm_sweep.proofs.TableLemmas.{was-read}
use Rattle.vm_sweep.proofs.reading.config_of.Goals as goal

pub returns-clause-config : goal.returns-clause-config
returns-clause-config c = was-read c.in_ok-config.config c.args.text.now c.in_ok-config.ensures.config
