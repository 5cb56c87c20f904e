use Rattle.std.proofs.Common.{◌∙◌, sym}
use Rattle.vm_import.specs.Lines.{is_no_digit}
use Rattle.vm_import.proofs.FirstLineLemmas.{before_found, before_none}
use Rattle.vm_import.proofs.lines.digits_of.Goals as goal

pub returns-in-Some : goal.returns-in-Some
returns-in-Some c = sym (before_found is_no_digit c.args.text.now c.in-Some.end (sym c.first_other.ensures ∙ c.in-Some.is))

pub returns-in-None : goal.returns-in-None
returns-in-None c = sym (before_none is_no_digit c.args.text.now (sym c.first_other.ensures ∙ c.in-None.is))
