use Rattle.std.proofs.Common.{sym}
use Rattle.vm_trace.proofs.Gathered.{word_before, word_alone}
use Rattle.vm_trace.proofs.parse.first_word.Goals as goal

pub returns-in-Some : goal.returns-in-Some
returns-in-Some c = word_before c.args.text.now c.in-Some.end (sym c.in-Some.ensures)

pub returns-in-None : goal.returns-in-None
returns-in-None c = word_alone c.args.text.now (sym c.in-None.ensures)
