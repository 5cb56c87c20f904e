use Rattle.std.proofs.Common.{◌<◌, length, ◌++◌, length-set, get_or, false, sym, ap, ◌∙◌, arith, append-nil}
use Rattle.std.proofs.lemmas.List.Elements.{All-push}
use Rattle.std.proofs.lemmas.List.Sums.{fold_push}
use Rattle.vm_pages.specs.Pages.{remove}
use Rattle.vm_balloon.proofs.ServiceLemmas.{deflated_by-accepted, deflated_by-ignored, deflated_by-none}
use Rattle.vm_balloon.proofs.service.deflate.Goals as goal
use Rattle.vm_balloon.proofs.service.deflate.Goals.{then-deflate_page, else-deflate_page}

pub loop-number-preserved : goal.loop-number-preserved
loop-number-preserved c =
    let invariant = c.loop-number.invariant in
    elim c.if-deflate_page.branch [
      | then-deflate_page w ↦
          let pushed = w.push_within.ensures in
          let page_within : get_or c.args.numbers.now c.loop-number.number-index 0 < length c.args.balloon.now =
          omega (arith, w.if-deflate_page.ensures.within, invariant.same_pages, invariant.early, c.requires.same_pages) in
          let page = get_or c.args.numbers.now c.loop-number.number-index 0 in
          let balloon_size = length-set c.loop-number.balloon page false in
          let early_size = length-set c.loop-number.early page false in
          record {
            deflated =
                rw (w.deflated-is, pushed.items, w.if-deflate_page.ensures.taken, w.if-deflate_page.ensures.taken_early)
                (deflated_by-accepted c.loop-number.balloon c.loop-number.early c.args.numbers.now c.loop-number.deflated.items c.loop-number.number-index (omega arith)
                w.if-deflate_page.ensures.within invariant.same_pages (sym c.deflate_page.ensures.value ∙ w.if-deflate_page.true)
                ∙ invariant.deflated);
            pages = rw (w.deflated-is, pushed.items) (All-push (λ page. page < length c.args.balloon.now) _ _ invariant.pages page_within);
            balloon =
                rw (w.deflated-is, pushed.items, w.if-deflate_page.ensures.taken, fold_push) (ap (λ pages. remove pages page) invariant.balloon);
            early_left =
                rw (w.deflated-is, pushed.items, w.if-deflate_page.ensures.taken_early, fold_push) (ap (λ pages. remove pages page) invariant.early_left);
            early = rw (w.if-deflate_page.ensures.taken_early) (early_size ∙ invariant.early);
            same_pages = rw (w.if-deflate_page.ensures.taken, w.if-deflate_page.ensures.taken_early) (early_size ∙ invariant.same_pages ∙ sym balloon_size);
            no_more = rw w.deflated-is (omega (arith, pushed.len));
            capacity = rw w.deflated-is (omega (arith, pushed.room));
          }
      | else-deflate_page w ↦
          record {
            deflated =
                rw (w.deflated-is, w.if-deflate_page.ensures.same, w.if-deflate_page.ensures.same_early)
                (ap (λ ys. c.loop-number.deflated.items ++ ys)
                (deflated_by-ignored c.loop-number.balloon c.loop-number.early c.args.numbers.now c.loop-number.number-index (omega arith) (sym c.deflate_page.ensures.value ∙ w.if-deflate_page.false))
                ∙ invariant.deflated);
            pages = rw w.deflated-is invariant.pages;
            balloon = rw (w.deflated-is, w.if-deflate_page.ensures.same) invariant.balloon;
            early_left = rw (w.deflated-is, w.if-deflate_page.ensures.same_early) invariant.early_left;
            early = rw w.if-deflate_page.ensures.same_early invariant.early;
            same_pages = rw (w.if-deflate_page.ensures.same_early, w.if-deflate_page.ensures.same) invariant.same_pages;
            no_more = rw w.deflated-is (omega arith);
            capacity = rw w.deflated-is (omega arith);
          }
    ]

pub returns-clause-deflated : goal.returns-clause-deflated
returns-clause-deflated c =
    let none = deflated_by-none c.loop-number.balloon c.loop-number.early c.args.numbers.now c.loop-number.number-index (omega arith) in
    sym (append-nil _) ∙ ap (λ ys. c.loop-number.deflated.items ++ ys) (sym none) ∙ c.loop-number.invariant.deflated
