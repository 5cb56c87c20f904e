use Rattle.std.proofs.Common.{◌≡◌, ◌+◌, ◌-◌, drop, length, take, sym, ap, ◌∙◌, arith}
use Rattle.std.proofs.lemmas.List.{take_all, drop-drop, length-drop, take-append-drop}
use Rattle.std.proofs.lemmas.List.Sums.{fold-append}
use Rattle.vm_pages.specs.Pages.{insert, insert_all}
use Rattle.vm_pages.proofs.page_marks.PageMarks.insert_all.Goals as goal

pub loop-done-preserved : goal.loop-done-preserved
loop-done-preserved c =
    let invariant = c.loop-done.invariant in
    let pages = c.args.pages.now in
    let run = c.insert_run-done.result in
    let left = drop c.loop-done.done pages in
    let all : take (length pages - c.loop-done.done) left ≡ left = take_all (length pages - c.loop-done.done) left (omega (arith, length-drop c.loop-done.done pages)) in
    let gone = rw all at c.insert_run-done.ensures in
    record {
      within = omega (arith, gone.within);
      after =
          ap (λ set. insert_all set (drop (c.loop-done.done + run) pages)) gone.after
          ∙ ap (insert_all (insert_all c.loop-done.self (take run left))) (sym (drop-drop run c.loop-done.done pages))
          ∙ sym (fold-append insert c.loop-done.self (take run left) (drop run left))
          ∙ ap (insert_all c.loop-done.self) (take-append-drop run left)
          ∙ invariant.after;
      size = gone.size ∙ invariant.size;
    }
