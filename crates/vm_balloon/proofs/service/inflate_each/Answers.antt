use Rattle.std.proofs.Common.{◌<◌, length, ◌++◌, length-set, get_or, true, sym, ap, ◌∙◌, arith, append-nil}
use Rattle.std.proofs.lemmas.List.Elements.{All-push}
use Rattle.std.proofs.lemmas.List.Sums.{fold_push}
use Rattle.vm_pages.specs.Pages.{insert}
use Rattle.vm_balloon.proofs.ServiceLemmas.{inflated_by-accepted, inflated_by-ignored, inflated_by-none}
use Rattle.vm_balloon.proofs.service.inflate_each.Goals as goal
use Rattle.vm_balloon.proofs.service.inflate_each.Goals.{then-inflate_page, else-inflate_page}

pub loop-number-preserved : goal.loop-number-preserved
loop-number-preserved c =
    let invariant = c.loop-number.invariant in
    elim c.if-inflate_page.branch [
      | then-inflate_page w ↦
          let pushed = w.push_within.ensures in
          let page_within : get_or c.args.numbers.now c.loop-number.number-index 0 < length c.args.balloon.now =
          omega (arith, w.if-inflate_page.ensures.within, invariant.same_pages) in
          record {
            inflated =
                rw (w.inflated-is, pushed.items, w.if-inflate_page.ensures.put)
                (inflated_by-accepted c.loop-number.balloon c.args.numbers.now c.loop-number.inflated.items c.loop-number.number-index (omega arith) w.if-inflate_page.ensures.within (sym c.inflate_page.ensures.value ∙ w.if-inflate_page.true)
                ∙ invariant.inflated);
            pages = rw (w.inflated-is, pushed.items) (All-push (λ page. page < length c.args.balloon.now) _ _ invariant.pages page_within);
            balloon = rw (w.inflated-is, pushed.items, w.if-inflate_page.ensures.put, fold_push) (ap (λ pages. insert pages (get_or c.args.numbers.now c.loop-number.number-index 0)) invariant.balloon);
            same_pages = rw (w.if-inflate_page.ensures.put) (length-set c.loop-number.balloon (get_or c.args.numbers.now c.loop-number.number-index 0) true ∙ invariant.same_pages);
            no_more = rw w.inflated-is (omega (arith, pushed.len));
            capacity = rw w.inflated-is (omega (arith, pushed.room));
          }
      | else-inflate_page w ↦
          record {
            inflated = rw (w.inflated-is, w.if-inflate_page.ensures.same)
                (ap (λ ys. c.loop-number.inflated.items ++ ys) (inflated_by-ignored c.loop-number.balloon c.args.numbers.now c.loop-number.number-index (omega arith) (sym c.inflate_page.ensures.value ∙ w.if-inflate_page.false)) ∙ invariant.inflated);
            pages = rw w.inflated-is invariant.pages;
            balloon = rw (w.inflated-is, w.if-inflate_page.ensures.same) invariant.balloon;
            same_pages = rw w.if-inflate_page.ensures.same invariant.same_pages;
            no_more = rw w.inflated-is (omega arith);
            capacity = rw w.inflated-is (omega arith);
          }
    ]

pub returns-clause-inflated : goal.returns-clause-inflated
returns-clause-inflated c =
    let none = inflated_by-none c.loop-number.balloon c.args.numbers.now c.loop-number.number-index (omega arith) in
    sym (append-nil _) ∙ ap (λ ys. c.loop-number.inflated.items ++ ys) (sym none) ∙ c.loop-number.invariant.inflated
