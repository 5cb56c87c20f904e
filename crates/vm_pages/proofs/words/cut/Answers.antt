use Rattle.std.proofs.Common.{◌≡◌, ◌-◌, ◌*◌, ◌%◌, ◌^◌, min, ap, ◌∙◌, arith}
use Rattle.vm_pages.proofs.BitLemmas.{low_mask}
use Rattle.vm_pages.proofs.words.cut.Goals as goal

pub returns-then-left-lt-WORD_PAGES : goal.returns-then-left-lt-WORD_PAGES
returns-then-left-lt-WORD_PAGES c =
    let few : c.args.pages - c.args.word * 64 ≡ min 64 (c.args.pages - c.args.word * 64) = omega arith in
    low_mask c.args.marks (c.args.pages - c.args.word * 64) (omega arith) ∙ ap (λ n. c.args.marks % 2 ^ n) few
