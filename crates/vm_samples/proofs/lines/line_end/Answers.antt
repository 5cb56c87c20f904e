use Rattle.vm_samples.specs.Lines.{is_line_end}
use Rattle.vm_samples.proofs.LineLemmas.{position_from_first}
use Rattle.vm_samples.proofs.lines.line_end.Goals as goal

pub returns : goal.returns
returns c = position_from_first is_line_end c.args.text.now _ c.memchr.ensures
