use Rattle.std.proofs.Common.{bytes_eq, ap, ◌∙◌}
use Rattle.vm_trace.proofs.parse.is_letter.Goals as goal

pub returns : goal.returns
returns c = c.eq.ensures ∙ ap (bytes_eq c.args.word.now) c.as_slice.ensures
