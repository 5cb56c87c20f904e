use Rattle.std.proofs.Common.{rules}
use Rattle.vm_sweep.specs.Table.{rows_for}
use Rattle.vm_sweep.proofs.TableLemmas.{fails-in_run, not-read}
use Rattle.vm_sweep.proofs.sweeping.sweep_in.Goals as goal

pub returns-in_err-config-clause-failed : goal.returns-in_err-config-clause-failed
returns-in_err-config-clause-failed g c =
    not-read _ (rows_for c.args.detail c.args.lists.now) c.args.lists.now c.args.text.now c.from_residual.result (search rules)

pub returns-in-Ok-clause-done : goal.returns-in-Ok-clause-done
returns-in-Ok-clause-done g c = (c.in_ok-config.config, c.in_ok-config.ensures.config, c.in-Ok.ensures.done)

pub returns-in-Ok-clause-accepted : goal.returns-in-Ok-clause-accepted
returns-in-Ok-clause-accepted g c = (c.in_ok-config.config, c.in_ok-config.ensures.config, c.in_ok-config.ensures.accepted)

pub returns-in-Err-clause-failed : goal.returns-in-Err-clause-failed
returns-in-Err-clause-failed g c =
    fails-in_run _ _ (rows_for c.args.detail c.args.lists.now) c.args.text.now c.in_ok-config.config c.in_ok-config.ensures.config c.in-Err.error
    c.in-Err.ensures.failed
