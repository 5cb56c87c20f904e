use Rattle.std.proofs.Common.{◌≡◌, ◌∙◌, ℕ, ◌+◌, ◌-◌, ◌<◌, ◌≤◌, List, [], ◌∷◌, ◌++◌, drop, get_or, length, min, ap, refl, sym, arith}
use Rattle.std.proofs.lemmas.List.{drop_more}
use Rattle.std.proofs.Math.ListN.{drop_of_length-le}
use Rattle.vm_plan.specs.declared.row.PlanRow.{PlanRow}
use Rattle.vm_plan.specs.PlanRow.{rows_of}
use Rattle.vm_pool.specs.Guests.{sum_of}
use Rattle.vm_reclaim.specs.Making.{shares_of}
use Rattle.vm_reclaim.proofs.DropLemmas.{append-nil, append-one}
use Rattle.vm_reclaim.proofs.room.surplus_shares.Goals as goal

-- a share is taken, or the whole surplus
left_after : (left over : ℕ) → left - min left over ≡ left - over
left_after left over = omega arith

less_both : (left count later : ℕ) → left - count - later ≡ left - (count + later)
less_both left count later = omega arith

less_none : (left : ℕ) → left ≡ left - 0
less_none left = omega arith

module _ (rows : List PlanRow) (i : ℕ) (row : PlanRow) (there : i < length rows) (is : row ≡ get_or rows i row) (left count : ℕ) (share : count ≡ min left (row.held - row.target)) where
  -- the share of the row, and of those after it
  next : count ∷ shares_of (left - count) (rows_of (drop (i + 1) rows)) ≡ shares_of left (rows_of (drop i rows))
  next =
      let after = ap (λ (n : ℕ). left - n) share ∙ left_after left (row.held - row.target) in
      (λ k. share k ∷ shares_of (after k) (rows_of (drop (i + 1) rows)))
      ∙ ap (λ (l : List PlanRow). shares_of left (rows_of l)) (ap (λ (r : PlanRow). r ∷ drop (i + 1) rows) is ∙ sym (drop_more rows i row there))

  step_done : (out whole : List ℕ) → out ++ shares_of left (rows_of (drop i rows)) ≡ whole → (out ++ count ∷ []) ++ shares_of (left - count) (rows_of (drop (i + 1) rows)) ≡ whole
  step_done out whole done = append-one out (shares_of (left - count) (rows_of (drop (i + 1) rows))) count ∙ (ap (λ l. out ++ l) next ∙ done)

  step_short : (whole : ℕ) → left - sum_of (shares_of left (rows_of (drop i rows))) ≡ whole → (left - count) - sum_of (shares_of (left - count) (rows_of (drop (i + 1) rows))) ≡ whole
  step_short whole short = less_both left count (sum_of (shares_of (left - count) (rows_of (drop (i + 1) rows)))) ∙ (ap (λ l. left - sum_of l) next ∙ short)

pub loop-row-preserved : goal.loop-row-preserved
loop-row-preserved c =
    let rows = c.args.rows.now in
    let i = c.loop-row.row-index in
    let row = c.row-item.result in
    let left = c.loop-row.left in
    let count = c.min-count.result in
    let there = c.loop-row-test.true in
    let is = c.row-item.is in
    let share = c.min-count.ensures ∙ ap (λ (n : ℕ). min left n) c.saturating_sub.ensures in
    record {
      done = ap (λ (l : List ℕ). l ++ shares_of (left - count) (rows_of (drop (i + 1) rows))) c.in_ok-push.ensures.items
          ∙ step_done rows i row there is left count share c.loop-row.counts.items _ c.loop-row.invariant.done;
      short = step_short rows i row there is left count share _ c.loop-row.invariant.short;
    }

pub returns-clause-counts : goal.returns-clause-counts
returns-clause-counts c =
    let none = ap (λ (l : List PlanRow). shares_of c.loop-row.left (rows_of l)) (drop_of_length-le c.args.rows.now c.loop-row-test.false) in
    sym (append-nil c.loop-row.counts.items) ∙ (ap (λ l. c.loop-row.counts.items ++ l) (sym none) ∙ c.loop-row.invariant.done)

pub returns-clause-short : goal.returns-clause-short
returns-clause-short c =
    let none = ap (λ (l : List PlanRow). shares_of c.loop-row.left (rows_of l)) (drop_of_length-le c.args.rows.now c.loop-row-test.false) in
    less_none c.loop-row.left ∙ (ap (λ l. c.loop-row.left - sum_of l) (sym none) ∙ c.loop-row.invariant.short)

pub loop-row-init : goal.loop-row-init
loop-row-init c =
    let short = c.args.short in
    let rows = c.args.rows.now in
    record {
      done = ap (λ (l : List ℕ). l ++ shares_of short (rows_of rows)) c.in_ok-counts.ensures.items;
      short = refl;
    }

at_most : (count left over : ℕ) → count ≡ min left over → count ≤ left
at_most count left over is = omega arith

pub overflow_sub-left : goal.overflow_sub-left
overflow_sub-left c = at_most c.min-count.result c.loop-row.left c.saturating_sub.result c.min-count.ensures
