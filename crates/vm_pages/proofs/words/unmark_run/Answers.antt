use Rattle.std.proofs.Common.{◌/◌, get_or, arith}
use Rattle.vm_pages.proofs.RunLemmas.{first_alone, past_out, read_out}
use Rattle.vm_pages.proofs.words.unmark_run.Goals as goal

pub returns-then-at-len-clause-same_word : goal.returns-then-at-len-clause-same_word
returns-then-at-len-clause-same_word c = first_alone c.args.pages.now c.requires

pub returns-then-at-len-clause-after : goal.returns-then-at-len-clause-after
returns-then-at-len-clause-after c = λ size. past_out c.args.words.now.items size c.args.pages.now c.requires (omega (arith, c.args.words.now.ok.0, c.if-at-len.true))

pub returns-clause-after : goal.returns-clause-after
returns-clause-after c = λ size.
    let run = c.without_run-run.ensures in
    (read_out c.args.words.now.items (get_or c.args.pages.now 0 0 / 64) _ _ _ _ (omega (arith, c.args.words.now.ok.0, c.if-at-len.false)) c.index.ensures run.same_word run.marks run.lost).after size

pub returns-clause-lost : goal.returns-clause-lost
returns-clause-lost c = λ size in_range.
    let run = c.without_run-run.ensures in
    (read_out c.args.words.now.items (get_or c.args.pages.now 0 0 / 64) _ _ _ _ (omega (arith, c.args.words.now.ok.0, c.if-at-len.false)) c.index.ensures run.same_word run.marks run.lost).lost size in_range
