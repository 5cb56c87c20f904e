use Rattle.vm_commands.proofs.LineLaws.{command_of-line, command_of-unreadable, command_of-no_form, command_of-no_memory, IsLine-from_read, IsUnreadable-from_read, HasNoForm-from_read}
use Rattle.vm_commands.proofs.laws.law_lines.Goals as goal

pub returns-clause-command : goal.returns-clause-command
returns-clause-command c = λ page line command some. (IsLine-from_read page line command some, command_of-line page line command some)

pub returns-clause-size : goal.returns-clause-size
returns-clause-size c = λ page line some. (IsUnreadable-from_read page line some, command_of-unreadable page line some)

pub returns-clause-bad : goal.returns-clause-bad
returns-clause-bad c = λ page line some. (HasNoForm-from_read page line some, command_of-no_form page line)

pub returns-clause-no_memory : goal.returns-clause-no_memory
returns-clause-no_memory c = command_of-no_memory
