use Rattle.std.proofs.Common.{◌≡◌, ℕ, ◌+◌, ◌++◌, ◌<◌, ◌≤◌, All, IfSome, List, ◌∙◌, ap, sym, subst, arith, drop, length}
use Rattle.std.proofs.lemmas.List.{length-map}
use Rattle.std.proofs.lemmas.List.Elements.{All-nil, All-push}
use Rattle.std.proofs.Math.ListN.{drop_of_length-le}
use borrow.Author.Count.{below_more, below_none}
use Rattle.vm_guest.specs.Good.{IsGood}
use Rattle.vm_plan.specs.declared.row.PlanRow.{PlanRow}
use Rattle.vm_plan.specs.Row.{Row}
use Rattle.vm_plan.specs.PlanRow.{row_of as plan_row, rows_of as plan_rows}
use Rattle.vm_pool.specs.Guests.{Guests, guest_in}
use Rattle.vm_reclaim.specs.Rows.{row_at, rows_of}
use Rattle.vm_reclaim.proofs.DropLemmas.{append-nil, each_of, map_push, step_list}
use Rattle.vm_reclaim.proofs.rows.rows_of.Goals as goal

one_more : (i end size : ℕ) → end ≡ size → i < end → i < size
one_more i end size is there = omega arith

all_seen : (size end i : ℕ) → end ≡ size → end ≤ i → size ≤ i
all_seen size end i is past = omega arith

seen_before : (size end i k : ℕ) → end ≡ size → end ≤ i → k < size → k < i
seen_before size end i k is past within = omega arith

pub loop-position-preserved : goal.loop-position-preserved
loop-position-preserved c =
    let i = c.loop-position.position in
    let rows = c.loop-position.rows.items in
    let guests = c.args.pool.now.guests in
    let ends = c.loop-position.invariant.ends in
    let before = c.loop-position-test.true in
    let pushed = c.in_ok-push.ensures.items in
    record {
      ends = ends;
      done = ap (λ (l : List PlanRow). plan_rows l ++ rows_of (drop (i + 1) guests)) pushed
          ∙ (ap (λ l. l ++ rows_of (drop (i + 1) guests)) (map_push plan_row rows c.row_at.result)
          ∙ step_list row_at (plan_rows rows) guests i (plan_row c.row_at.result) (rows_of guests) (one_more i c.len-position-end.result (length guests) ends before) c.row_at.ensures.row c.loop-position.invariant.done);
      good = below_more (λ k. IfSome (guest_in guests k) IsGood) i c.loop-position.invariant.good c.row_at.ensures.good;
      held = subst (All (λ (row : PlanRow). row.target ≤ row.held)) (sym pushed) (All-push (λ (row : PlanRow). row.target ≤ row.held) rows c.row_at.result c.loop-position.invariant.held c.row_at.ensures.held);
    }

pub returns-clause-good : goal.returns-clause-good
returns-clause-good c =
    let guests = c.args.pool.now.guests in
    let before = seen_before (length guests) c.len-position-end.result c.loop-position.position in
    each_of IsGood guests (λ i within. c.loop-position.invariant.good i (before i c.loop-position.invariant.ends c.loop-position-test.false within))

pub loop-position-init : goal.loop-position-init
loop-position-init c =
    let none = c.in_ok-rows.ensures.items in
    record {
      ends = c.len-position-end.ensures.guests;
      done = ap (λ (l : List PlanRow). plan_rows l ++ rows_of c.args.pool.now.guests) none;
      good = below_none (λ k. IfSome (guest_in c.args.pool.now.guests k) IsGood);
      held = subst (All (λ (row : PlanRow). row.target ≤ row.held)) (sym none) (All-nil (λ (row : PlanRow). row.target ≤ row.held));
    }

pub returns-clause-rows : goal.returns-clause-rows
returns-clause-rows c =
    let guests = c.args.pool.now.guests in
    let rows = plan_rows c.loop-position.rows.items in
    let past = all_seen (length guests) c.len-position-end.result c.loop-position.position c.loop-position.invariant.ends c.loop-position-test.false in
    sym (append-nil rows) ∙ (ap (λ (l : Guests). rows ++ rows_of l) (sym (drop_of_length-le guests past)) ∙ c.loop-position.invariant.done)

-- there are as many
as_many : (rows : List PlanRow) (guests : Guests) → plan_rows rows ≡ rows_of guests → length rows ≡ length guests
as_many rows guests same = sym (length-map rows plan_row) ∙ (ap (λ (l : List Row). length l) same ∙ length-map guests row_at)

pub returns-clause-length : goal.returns-clause-length
returns-clause-length c = as_many c.loop-position.rows.items c.args.pool.now.guests (returns-clause-rows c)

pub returns-clause-held : goal.returns-clause-held
returns-clause-held c = c.loop-position.invariant.held
