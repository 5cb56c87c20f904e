use Rattle.std.proofs.Common.{refl}
use Rattle.std.specs.Fmt.{digits}
use Rattle.vm_commands.specs.Lines.{command_of, command_of_words, domain_command, joined_size, minimum_of, set_memory, set_minimum, set_shares, shares_of, sized_command, tune_command, tune_joined}
use Rattle.vm_commands.specs.Sizes.{bytes_of_size, pages_of_size, unit_of}
use Rattle.vm_check.proofs.law.law_examples.Goals as goal

pub returns : goal.returns
unfolding digits command_of command_of_words domain_command joined_size minimum_of set_memory set_minimum set_shares shares_of sized_command tune_command tune_joined bytes_of_size pages_of_size unit_of
returns c = record { thresholds = refl; starts = refl; never = refl; commands = refl; tuned = refl; inflated = refl; deflated = refl; own = refl }
