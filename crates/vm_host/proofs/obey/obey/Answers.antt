use Rattle.std.proofs.Common.{◌≡◌, OnOk, subst, sym}
use Rattle.vm_commands.specs.declared.command.Command.{Command}
use Rattle.vm_tax.specs.Ratio.{hundredths}
use Rattle.vm_host.specs.Commands.{obeyed_by}
use Rattle.vm_host.proofs.obey.obey.Goals as goal

pub returns-in-SetMinimum-clause-done : goal.returns-in-SetMinimum-clause-done
returns-in-SetMinimum-clause-done c =
    subst (λ (command : Command). OnOk c.set_minimum.result (c.set_minimum.new.pool ≡ obeyed_by (hundredths c.args.tax) c.args.pool.now c.args.position command))
    (sym c.in-SetMinimum.is) c.set_minimum.ensures.done
