use Rattle.std.proofs.Common.{◌+◌, ◌-◌, ◌*◌, [], ◌∷◌, ◌++◌, min, refl, sym, ap, ◌∙◌, arith}
use lib.Count.{count_leading_zeros}
use Rattle.vm_pages.specs.Words.{marked}
use Rattle.vm_pages.proofs.BitLemmas.{is_top}
use Rattle.vm_pages.proofs.ExtremeLemmas.{greatest_from-within, greatest_from-full}
use Rattle.vm_pages.proofs.WordExtremes.{greatest_from-top, greatest_from-no_bits}
use Rattle.vm_pages.proofs.WordLemmas.{length-marked}
use Rattle.vm_pages.proofs.page_set.list_marks_down.Goals as goal

pub loop-lower-init : goal.loop-lower-init
loop-lower-init c = record {
  listed = λ words pages begins marks before. record {
    place = min 64 (pages - c.args.word * 64);
    few = omega arith;
    inside = omega (arith, begins);
    bits = marks;
    listed = before ∙ sym (greatest_from-within (marked words pages) _ _ _ (omega (arith, length-marked words pages, begins)));
  };
  room = refl;
}

pub returns-then-len-most-clause-after : goal.returns-then-len-most-clause-after
returns-then-len-most-clause-after c = λ words pages begins marks before.
    let down = c.loop-lower.invariant.listed words pages begins marks before in
    down.listed ∙ sym (greatest_from-full _ _ _ _ (omega arith) (rw (← down.listed) (omega arith)))

pub overflow_sub-lower : goal.overflow_sub-lower
overflow_sub-lower c =
    let top = is_top c.loop-lower.lower 64 c.loop-lower.lower (omega arith) (omega arith) (omega arith) in
    rw top.power top.fits

pub loop-lower-preserved : goal.loop-lower-preserved
loop-lower-preserved c = record {
  listed = λ words pages begins marks before.
      let down = c.loop-lower.invariant.listed words pages begins marks before in
      let top = is_top _ down.place c.loop-lower.lower down.bits down.few (omega arith) in
      record {
        place = 63 - count_leading_zeros 64 c.loop-lower.lower;
        few = omega (arith, top.below, down.few);
        inside = omega (arith, top.below, down.inside);
        bits = rw top.power top.left;
        listed =
            c.push_reserved.ensures.items
            ∙ ap (λ l. l ++ (c.args.word * 64 + (63 - count_leading_zeros 64 c.loop-lower.lower)) ∷ []) down.listed
            ∙ sym (greatest_from-top words pages c.args.word down.place c.loop-lower.lower _ c.args.most top down.bits down.few down.inside (rw (← down.listed) (omega arith)));
      };
  room = c.push_reserved.ensures.capacity ∙ c.loop-lower.invariant.room;
}

pub returns-clause-after : goal.returns-clause-after
returns-clause-after c = λ words pages begins marks before.
    let down = c.loop-lower.invariant.listed words pages begins marks before in
    down.listed ∙ sym (greatest_from-no_bits words pages c.args.word down.place c.args.most (omega (arith, down.bits)) down.few down.inside)
