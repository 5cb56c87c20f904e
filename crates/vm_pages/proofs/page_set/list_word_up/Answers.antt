use Rattle.std.proofs.Common.{◌≡◌, ◌+◌, ◌-◌, ◌*◌, [], ◌∷◌, ◌++◌, min, refl, sym, ap, ◌∙◌, arith}
use lib.Count.{count_trailing_zeros}
use Rattle.vm_pages.specs.Words.{marked}
use Rattle.vm_pages.specs.Extremes.{least_below}
use Rattle.vm_pages.proofs.BitLemmas.{is_lowest}
use Rattle.vm_pages.proofs.ExtremeLemmas.{least_below-within, least_below-full}
use Rattle.vm_pages.proofs.WordExtremes.{least_below-lowest, least_below-no_bits}
use Rattle.vm_pages.proofs.WordLemmas.{length-marked}
use Rattle.vm_pages.proofs.page_set.list_word_up.Goals as goal

pub loop-upper-init : goal.loop-upper-init
loop-upper-init c =
    let start : c.args.word * 64 + 0 ≡ c.args.word * 64 = omega arith in
    record {
      place = 0;
      inside = omega arith;
      bits = omega (arith, c.marks_in-upper.ensures);
      listed = c.requires.before ∙ ap (λ page. least_below (marked c.args.words.now c.args.pages) page c.args.most) (sym start);
      room = refl;
    }

pub returns-then-len-most-clause-after : goal.returns-then-len-most-clause-after
returns-then-len-most-clause-after c =
    let invariant = c.loop-upper.invariant in
    invariant.listed ∙ sym (least_below-full _ _ _ _ (omega (arith, invariant.inside)) (rw (← invariant.listed) (omega arith)))

pub overflow_sub-upper : goal.overflow_sub-upper
overflow_sub-upper c =
    let invariant = c.loop-upper.invariant in
    let lowest = is_lowest _ invariant.place _ c.loop-upper.upper invariant.bits invariant.inside (omega arith) (omega arith) in
    rw lowest.power lowest.fits

pub loop-upper-preserved : goal.loop-upper-preserved
loop-upper-preserved c =
    let invariant = c.loop-upper.invariant in
    let lowest = is_lowest _ invariant.place _ c.loop-upper.upper invariant.bits invariant.inside (omega arith) (omega arith) in
    record {
      place = 1 + count_trailing_zeros 64 c.loop-upper.upper;
      inside = omega (arith, lowest.below);
      bits = rw lowest.power lowest.left;
      listed =
          c.push_reserved.ensures.items
          ∙ ap (λ l. l ++ (c.args.word * 64 + count_trailing_zeros 64 c.loop-upper.upper) ∷ []) invariant.listed
          ∙ sym (least_below-lowest c.args.words.now c.args.pages c.args.word invariant.place _ c.loop-upper.upper _ c.args.most lowest (omega arith) (omega arith) (rw (← invariant.listed) (omega arith)));
      room = c.push_reserved.ensures.capacity ∙ invariant.room;
    }

pub returns-clause-after : goal.returns-clause-after
returns-clause-after c =
    let invariant = c.loop-upper.invariant in
    invariant.listed
    ∙ sym (least_below-no_bits c.args.words.now c.args.pages c.args.word invariant.place (min 64 (c.args.pages - c.args.word * 64)) c.args.most (omega (arith, invariant.bits)) invariant.inside (omega arith) (omega arith))
    ∙ least_below-within (marked c.args.words.now c.args.pages) _ _ _ (omega (arith, length-marked c.args.words.now c.args.pages))
