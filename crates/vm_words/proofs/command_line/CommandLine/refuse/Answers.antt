use Rattle.std.proofs.Common.{refl}
use Rattle.vm_words.proofs.command_line.CommandLine.refuse.Goals as goal

pub returns : goal.returns
returns g c = refl
