use Rattle.std.proofs.Common.{◌≡◌, ◌+◌, ◌-◌, ◌<◌, ℕ, drop, length, take, sym, ap, ◌∙◌, arith}
use Rattle.std.proofs.Math.Seq.{take-add}
use Rattle.std.proofs.lemmas.List.{take_all, length-drop, length-take-le}
use Rattle.std.proofs.lemmas.List.Elements.{All-take}
use Rattle.std.proofs.lemmas.List.Sums.{fold-append}
use Rattle.vm_pages.specs.Pages.{count, insert, insert_all, remove_all}
use Rattle.vm_pages.proofs.PageSets.{insert_all-parts, remove_all-insert_all}
use Rattle.vm_pages.proofs.page_set.PageSet.insert_all_if_new.Goals as goal

pub returns-then-run-eq0-clause-all_new : goal.returns-then-run-eq0-clause-all_new
returns-then-run-eq0-clause-all_new c =
    let invariant = c.loop-done.invariant in
    let pages = c.args.pages.now in
    let left = drop c.loop-done.done pages in
    let all : take (length pages - c.loop-done.done) left ≡ left = take_all (length pages - c.loop-done.done) left (omega (arith, length-drop c.loop-done.done pages)) in
    let short = (rw all at c.insert_new_run-run.ensures).not_new c.if-run-eq0.true in
    let whole = ap (λ set. insert_all set left) invariant.after ∙ insert_all-parts c.args.self.now pages c.loop-done.done in (
      λ wrong. absurd (cc),
      λ grown. absurd (omega (arith, grown, short, ap count whole, invariant.gained, invariant.within, length-drop c.loop-done.done pages)),
    )

pub returns-then-run-eq0-clause-same : goal.returns-then-run-eq0-clause-same
returns-then-run-eq0-clause-same c =
    let invariant = c.loop-done.invariant in
    let old = c.args.self.now in
    let pages = c.args.pages.now in
    let before = take c.loop-done.done pages in
    let left = take (length pages - c.loop-done.done) (drop c.loop-done.done pages) in
    let none = ap (λ (run : ℕ). insert_all c.loop-done.self (take run left)) c.if-run-eq0.true in
    let grown : count (insert_all old before) ≡ count old + length before =
    omega (arith, ap count invariant.after, invariant.gained, length-take-le c.loop-done.done pages invariant.within) in
    c.remove_all.ensures.after
    ∙ ap (λ set. remove_all set before) (c.insert_new_run-run.ensures.after ∙ none ∙ invariant.after)
    ∙ remove_all-insert_all old before (All-take (λ page. page < length old) c.loop-done.done pages c.requires) grown

pub loop-done-preserved : goal.loop-done-preserved
loop-done-preserved c =
    let invariant = c.loop-done.invariant in
    let old = c.args.self.now in
    let pages = c.args.pages.now in
    let run = c.insert_new_run-run.result in
    let before = take c.loop-done.done pages in
    let left = drop c.loop-done.done pages in
    let all : take (length pages - c.loop-done.done) left ≡ left = take_all (length pages - c.loop-done.done) left (omega (arith, length-drop c.loop-done.done pages)) in
    let came = rw all at c.insert_new_run-run.ensures in
    record {
      within = omega (arith, came.within, invariant.within, length-drop c.loop-done.done pages);
      after =
          came.after
          ∙ ap (λ set. insert_all set (take run left)) invariant.after
          ∙ sym (fold-append insert old before (take run left))
          ∙ ap (insert_all old) (sym (take-add c.loop-done.done run pages));
      gained = omega (arith, came.gained, invariant.gained);
      size = came.size ∙ invariant.size;
    }
