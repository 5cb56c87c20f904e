use Rattle.std.proofs.Common.{sym, arith}
use Rattle.vm_pages.proofs.WordLemmas.{marked-remove_read, remove-past}
use Rattle.vm_pages.proofs.words.unmark.Goals as goal

pub returns-then-word-len-clause-after : goal.returns-then-word-len-clause-after
returns-then-word-len-clause-after c = λ size. marked-remove_read c.args.words.now.items size c.args.page _ (omega (arith, c.args.words.now.ok.0, c.if-word-len.true)) c.index_mut.ensures.value

pub returns-else-word-len-clause-after : goal.returns-else-word-len-clause-after
returns-else-word-len-clause-after c = λ size. sym (remove-past c.args.words.now.items size c.args.page (omega (arith, c.args.words.now.ok.0, c.if-word-len.false)))
