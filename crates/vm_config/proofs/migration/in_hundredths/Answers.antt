use Rattle.std.proofs.Common.{ap}
use Rattle.vm_config.specs.Migration.{in_hundredths}
use Rattle.vm_config.proofs.migration.in_hundredths.Goals as goal

pub returns : goal.returns
returns c = ap in_hundredths c.machine.view_is
