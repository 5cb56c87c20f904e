use Rattle.vm_commands.proofs.command.Domain.into_string.Goals as goal

pub returns : goal.returns
returns c = c.self.view_is
