use Rattle.vm_commands.proofs.command.Domain.new.Goals as goal

pub returns : goal.returns
returns c = c.in_ok-from_str.ensures.ok
