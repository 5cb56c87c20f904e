use Rattle.std.proofs.Common.{not, ap, ◌∙◌}
use Rattle.vm_commands.specs.Lines.{is_domain}
use Rattle.vm_commands.proofs.line.is_domain.Goals as goal

pub returns : goal.returns
returns c = ap not c.starts_with.ensures.value ∙ ap is_domain c.as_bytes.ensures.value
