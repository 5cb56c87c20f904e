use Rattle.vm_commands.proofs.LineLaws.{answer_is_line, line_is_answered, bad_where_no_form, size_where_unreadable, memory_for_a_command}
use Rattle.vm_commands.proofs.line.parse_line.Goals as goal

pub returns-clause-command : goal.returns-clause-command
returns-clause-command c = answer_is_line c.args.page c.args.line.now c.command_of.result c.requires c.command_of.ensures

pub returns-clause-accepts : goal.returns-clause-accepts
returns-clause-accepts c = line_is_answered c.args.page c.args.line.now c.command_of.result c.requires c.command_of.ensures

pub returns-clause-bad : goal.returns-clause-bad
returns-clause-bad c = bad_where_no_form c.args.page c.args.line.now c.command_of.result c.requires c.command_of.ensures

pub returns-clause-size : goal.returns-clause-size
returns-clause-size c = size_where_unreadable c.args.page c.args.line.now c.command_of.result c.requires c.command_of.ensures

pub returns-clause-memory : goal.returns-clause-memory
returns-clause-memory c = memory_for_a_command c.args.page c.args.line.now c.command_of.result c.requires c.command_of.ensures
