use Rattle.std.proofs.Common.{sym, ap}
use Rattle.vm_config.specs.ConfigErrors.{number_of}
use Rattle.vm_config.proofs.error.ConfigError.number.Goals as goal

pub returns-in-Memory : goal.returns-in-Memory
returns-in-Memory c = sym (ap number_of c.in-Memory.is)
