use Rattle.std.proofs.Common.{◌∙◌, sym}
use Rattle.vm_import.specs.Logs.{is_line_end}
use Rattle.vm_import.proofs.FirstLineLemmas.{before_found, before_none}
use Rattle.vm_import.proofs.reader.first_line.Goals as goal

pub returns-in-Some : goal.returns-in-Some
returns-in-Some c = sym (before_found is_line_end c.args.text.now c.in-Some.end (sym c.line_end.ensures ∙ c.in-Some.is))

pub returns-in-None : goal.returns-in-None
returns-in-None c = sym (before_none is_line_end c.args.text.now (sym c.line_end.ensures ∙ c.in-None.is))
