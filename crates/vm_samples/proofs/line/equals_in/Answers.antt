use Rattle.vm_samples.specs.SampleLines.{is_equals}
use Rattle.vm_samples.proofs.LineLemmas.{position_from_first}
use Rattle.vm_samples.proofs.line.equals_in.Goals as goal

pub returns : goal.returns
returns c = position_from_first is_equals c.args.text.now _ c.memchr.ensures
