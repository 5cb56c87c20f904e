use Rattle.std.proofs.Common.{◌≡◌, ◌+◌, ◌-◌, ◌*◌, sym, ap, ◌∙◌, refl, arith}
use Rattle.vm_pages.specs.Extremes.{greatest_from}
use Rattle.vm_pages.proofs.ExtremeLemmas.{greatest_from-same, greatest_from-full}
use Rattle.vm_pages.proofs.Outside.{outside, length-outside, outside_down}
use Rattle.vm_pages.proofs.page_set.list_block_outside.Goals as goal

pub loop-word-init : goal.loop-word-init
loop-word-init c = record {
  above = omega arith;
  listed =
      c.requires.before
      ∙ greatest_from-same (outside c.args.words.now c.args.others.now c.args.except c.args.pages) _ _ _
      (omega (arith, c.min-end.ensures, c.div_ceil.ensures, length-outside c.args.words.now c.args.others.now c.args.except c.args.pages));
  room = refl;
}

pub returns-then-len-most-clause-after : goal.returns-then-len-most-clause-after
returns-then-len-most-clause-after c =
    let invariant = c.loop-word.invariant in
    invariant.listed ∙ sym (greatest_from-full _ _ _ _ (omega (arith, invariant.above)) (rw (← invariant.listed) (omega arith)))

pub loop-word-preserved : goal.loop-word-preserved
loop-word-preserved c =
    let invariant = c.loop-word.invariant in
    let above : c.loop-word.word ≡ c.loop-word.word - 1 + 1 = omega arith in
    record {
      above = omega arith;
      listed =
          outside_down c.args.words.now c.args.others.now c.args.except c.args.pages (c.loop-word.word - 1) c.args.most _ _ _
          (λ word. omega (arith, c.type_inv.words word)) (λ word. omega (arith, c.type_inv.others word))
          c.list_marks_down.ensures.after (omega (arith, c.min-end.ensures, c.div_ceil.ensures)) c.marks_outside-marks.ensures
          (invariant.listed ∙ ap (λ n. greatest_from (outside c.args.words.now c.args.others.now c.args.except c.args.pages) (n * 64) c.args.most) above);
      room = c.list_marks_down.ensures.room ∙ invariant.room;
    }

pub returns-clause-after : goal.returns-clause-after
returns-clause-after c =
    let start : c.loop-word.word * 64 ≡ c.args.block * 2048 = omega arith in
    c.loop-word.invariant.listed ∙ ap (λ page. greatest_from (outside c.args.words.now c.args.others.now c.args.except c.args.pages) page c.args.most) start
