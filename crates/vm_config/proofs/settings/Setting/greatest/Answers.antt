use Rattle.std.proofs.Common.{sym, ap}
use Rattle.vm_config.specs.Settings.{greatest_of}
use Rattle.vm_config.proofs.settings.Setting.greatest.Goals as goal

pub returns-in-Tax : goal.returns-in-Tax
returns-in-Tax c = sym (ap greatest_of c.in-Tax.is)
