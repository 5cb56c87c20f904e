use Rattle.std.proofs.Common.{◌≡◌, ◌++◌, ◌+◌, ◌-◌, ◌^◌, ◌<◌, ◌≤◌, ℕ, [], List, length, replicate, Result, Ok, Err, IfErr, inl, sym, refl, ap, ◌∙◌, subst, arith}
use Rattle.std.proofs.lemmas.Grind.{fold-append}
use Rattle.std.proofs.lemmas.List.{length-append, length-map, length-replicate, with_items_is}
use Rattle.std.proofs.lemmas.Result.{IfOk-from_err}
use Rattle.vm_tax.specs.Ratio.{Tax, hundredths}
use Rattle.vm_plan.specs.declared.row.PlanRow.{PlanRow}
use Rattle.vm_plan.specs.Moves.{EachMove}
use Rattle.vm_plan.specs.Row.{Row, revocable_ratio}
use Rattle.vm_plan.specs.PlanRow.{row_of, rows_of}
use Rattle.vm_plan.specs.Rebalancing.{IsTransfer, IsNextGiver, IsRebalancingList, given_by, rows_given}
use Rattle.vm_plan.specs.Runs.{rows_moved, IsFlow}
use Rattle.vm_plan.specs.Sides.{AreSides}
use Rattle.vm_plan.proofs.FlowLemmas.{each_flow, given_flows}
use Rattle.vm_plan.proofs.KeepLemmas.{rebalancing_applies}
use Rattle.vm_plan.proofs.MoveLemmas.{empty-length, none_in}
use Rattle.vm_plan.proofs.Places.{within}
use Rattle.vm_plan.proofs.RebalanceLemmas.{length-rows_given, rebalancing_list-only, rebalancing_within}
use Rattle.vm_plan.proofs.RowLemmas.{plan_rows-have_shares}
use Rattle.vm_plan.proofs.rebalance.rebalancing.Goals as goal
use Rattle.vm_plan.proofs.rebalance.rebalancing.Goals.{else-loop-left-test, then-loop-left-test+in_default}

-- ---- what several goals want

any_err : {T E : Type 0} (r : Result T E) (P : Type 0) → P → IfErr r (λ _. P)
any_err (Ok x) P h = tt
any_err (Err e) P h = h

none_yet : (moves : List ℕ) (n : ℕ) → moves ≡ [] → length moves + n ≡ n
none_yet moves n e = let empty = empty-length moves e in omega (arith, empty)

more_moves : (moves : List ℕ) (giver count left limit : ℕ) → count ≤ left → length moves + left ≡ limit → length (moves ++ replicate count giver) + (left - count) ≡ limit
more_moves moves giver count left limit some turns =
    let long = length-append moves (replicate count giver) in
    let wide = length-replicate count giver in
    omega (arith, long, wide, some, turns)

few_moves : (moves count left limit : ℕ) → count ≤ left → moves + left ≡ limit → limit < 2 ^ 32 → moves + count < 2 ^ 32
few_moves moves count left limit some turns few = omega arith

-- who gives a page is among the rows at the start
some_rows : (tax : Tax) (rows after : List PlanRow) (moves : List ℕ) (giver taker : ℕ) → rows_of after ≡ rows_given tax (rows_of rows) moves → IsTransfer tax (rows_of after) giver taker → 0 < length rows
some_rows tax rows after moves giver taker e t =
    let there = within (revocable_ratio tax) (rows_of after) giver t.least.ratio t.least.here in
    let long = ap length e ∙ length-rows_given tax (rows_of rows) moves ∙ length-map rows row_of in
    omega (arith, there, long)

-- ---- before the loop

pub returns-in_err-after : goal.returns-in_err-after
returns-in_err-after c =
    let failed = c.from_residual.ensures.0 in
    let some : 0 < c.args.limit = omega (arith, c.if-limit-eq0.false) in
    record {
      list = IfOk-from_err _ _ failed;
      exact = IfOk-from_err _ _ failed;
      within = IfOk-from_err _ _ failed;
      applies = IfOk-from_err _ _ failed;
      memory = any_err _ ((0 < length c.args.rows.now) × (0 < c.args.limit)) (c.in_err-after.ensures.memory, some);
    }

pub returns-in_err-givers : goal.returns-in_err-givers
returns-in_err-givers c =
    let failed = c.from_residual-in_err-givers.ensures.0 in
    let some : 0 < c.args.limit = omega (arith, c.if-limit-eq0.false) in
    record {
      list = IfOk-from_err _ _ failed;
      exact = IfOk-from_err _ _ failed;
      within = IfOk-from_err _ _ failed;
      applies = IfOk-from_err _ _ failed;
      memory = any_err _ ((0 < length c.args.rows.now) × (0 < c.args.limit)) (c.in_err-givers.ensures.memory, some);
    }

pub returns-in_err-takers : goal.returns-in_err-takers
returns-in_err-takers c =
    let failed = c.from_residual-in_err-takers.ensures.0 in
    let some : 0 < c.args.limit = omega (arith, c.if-limit-eq0.false) in
    record {
      list = IfOk-from_err _ _ failed;
      exact = IfOk-from_err _ _ failed;
      within = IfOk-from_err _ _ failed;
      applies = IfOk-from_err _ _ failed;
      memory = any_err _ ((0 < length c.args.rows.now) × (0 < c.args.limit)) (c.in_err-takers.ensures.memory, some);
    }

pub loop-left-init : goal.loop-left-init
loop-left-init c =
    let tax = hundredths c.args.tax in
    let rows = c.args.rows.now in
    let items : c.in_ok-after.after.items ≡ rows = c.in_ok-after.ensures.items in
    let copied : rows_of c.in_ok-after.after.items ≡ rows_of rows = ap rows_of items in
    record {
      rows = copied ∙ ap (λ (xs : List ℕ). rows_given tax (rows_of rows) xs) (sym c.new-plan.ensures);
      sides = subst (λ (xs : List Row). AreSides c.args.tax xs c.in_ok-givers.givers c.in_ok-takers.takers) (sym copied) (record {
        own = rows_of rows;
        grown = rows_of rows;
        are_own = λ k. inl refl;
        are_grown = λ k. inl refl;
        giving = c.in_ok-givers.ensures.tracked;
        taking = c.in_ok-takers.ensures.tracked;
      });
      each_next = λ i l. absurd (none_in c.new-plan.result i c.new-plan.ensures l);
      turns = none_yet c.new-plan.result c.args.limit c.new-plan.ensures;
      few = ap (λ (xs : List PlanRow). length xs) items;
    }

-- ---- a turn

pub next_transfer-requires-clause-few : goal.next_transfer-requires-clause-few
next_transfer-requires-clause-few c =
    let same = ap (λ (xs : List PlanRow). length xs) c.deref.ensures.value ∙ c.loop-left.invariant.few in
    omega (arith, same, c.requires.few)

pub next_transfer-requires-clause-sides : goal.next_transfer-requires-clause-sides
next_transfer-requires-clause-sides c = subst (λ (xs : List PlanRow). AreSides c.args.tax (rows_of xs) c.loop-left.givers c.loop-left.takers) (sym c.deref.ensures.value) c.loop-left.invariant.sides

pub flow_length-count-requires-clause-next : goal.flow_length-count-requires-clause-next
flow_length-count-requires-clause-next c =
    subst (λ (xs : List PlanRow). IsTransfer (hundredths c.args.tax) (rows_of xs) c.in-Some.transfer.giver c.in-Some.transfer.taker) (c.deref.ensures.value ∙ sym c.deref-in-loop-left.ensures.value) c.in-Some.ensures.some

pub flow_length-count-requires-clause-sides : goal.flow_length-count-requires-clause-sides
flow_length-count-requires-clause-sides c = subst (λ (xs : List PlanRow). AreSides c.args.tax (rows_of xs) c.loop-left.givers c.loop-left.takers) (sym c.deref-in-loop-left.ensures.value) c.loop-left.invariant.sides

pub move_pages-requires-clause-flow : goal.move_pages-requires-clause-flow
move_pages-requires-clause-flow c =
    subst (λ (xs : List PlanRow). IsFlow (hundredths c.args.tax) (rows_of xs) c.in-Some.transfer.giver c.in-Some.transfer.taker c.flow_length-count.result) (c.deref-in-loop-left.ensures.value ∙ sym c.deref_mut.ensures.value) c.flow_length-count.ensures.flow

pub move_pages-requires-clause-sides : goal.move_pages-requires-clause-sides
move_pages-requires-clause-sides c =
    subst (λ (xs : List PlanRow). AreSides c.args.tax (rows_of xs) c.flow_length-count.new.givers c.flow_length-count.new.takers) (c.deref-in-loop-left.ensures.value ∙ sym c.deref_mut.ensures.value) c.flow_length-count.ensures.sides

pub push-requires-clause-some : goal.push-requires-clause-some
push-requires-clause-some c = let some = c.flow_length-count.ensures.flow.some in omega (arith, some)

pub push-requires-clause-few : goal.push-requires-clause-few
push-requires-clause-few c = few_moves (length c.loop-left.plan) c.flow_length-count.result c.loop-left.left c.args.limit c.flow_length-count.ensures.left c.loop-left.invariant.turns (omega arith)

pub returns-in_err-push : goal.returns-in_err-push
returns-in_err-push c =
    let failed = c.from_residual-in_err-push.ensures.0 in
    let next = subst (λ (xs : List PlanRow). IsTransfer (hundredths c.args.tax) (rows_of xs) c.in-Some.transfer.giver c.in-Some.transfer.taker) c.deref.ensures.value c.in-Some.ensures.some in
    let there = some_rows (hundredths c.args.tax) c.args.rows.now c.loop-left.after.items c.loop-left.plan c.in-Some.transfer.giver c.in-Some.transfer.taker c.loop-left.invariant.rows next in
    let some : 0 < c.args.limit = omega (arith, c.if-limit-eq0.false) in
    record {
      list = IfOk-from_err _ _ failed;
      exact = IfOk-from_err _ _ failed;
      within = IfOk-from_err _ _ failed;
      applies = IfOk-from_err _ _ failed;
      memory = any_err _ ((0 < length c.args.rows.now) × (0 < c.args.limit)) (there, some);
    }

pub loop-left-preserved : goal.loop-left-preserved
loop-left-preserved c =
    let tax = hundredths c.args.tax in
    let rows = rows_of c.args.rows.now in
    let moves = c.loop-left.plan in
    let giver = c.in-Some.transfer.giver in
    let taker = c.in-Some.transfer.taker in
    let count = c.flow_length-count.result in
    let new = c.move_pages.new.rows in
    let now = rows_of c.loop-left.after.items in
    let shares = plan_rows-have_shares c.loop-left.after.items in
    let whole = with_items_is c.loop-left.after new (c.move_pages.auto.rows ∙ c.deref_mut.ensures.len) in
    let pushed : c.push.new.self ≡ moves ++ replicate count giver = c.in_ok-push.ensures in
    let flow = subst (λ (xs : List PlanRow). IsFlow tax (rows_of xs) giver taker count) c.deref-in-loop-left.ensures.value c.flow_length-count.ensures.flow in
    let moved = c.move_pages.ensures.moved ∙ ap (λ (xs : List PlanRow). rows_moved (rows_of xs) giver taker count) c.deref_mut.ensures.value in
    let after = moved ∙ sym (given_flows tax now giver taker count shares flow.each_next) ∙ ap (λ (xs : List Row). rows_given tax xs (replicate count giver)) c.loop-left.invariant.rows in
    record {
      rows = ap (λ (xs : List PlanRow). rows_of xs) whole ∙ after ∙ sym (fold-append (given_by tax) rows moves (replicate count giver)) ∙ ap (λ (xs : List ℕ). rows_given tax rows xs) (sym pushed);
      sides = subst (λ (xs : List PlanRow). AreSides c.args.tax (rows_of xs) c.move_pages.new.givers c.move_pages.new.takers) (sym whole) c.move_pages.ensures.sides;
      each_next = subst (λ (xs : List ℕ). EachMove (λ before move. IsNextGiver tax (rows_given tax rows before) move) xs) (sym pushed)
          (each_flow tax rows now moves giver taker count shares c.loop-left.invariant.rows flow c.loop-left.invariant.each_next);
      turns = ap (λ (xs : List ℕ). length xs + (c.loop-left.left - count)) pushed ∙ more_moves moves giver count c.loop-left.left c.args.limit c.flow_length-count.ensures.left c.loop-left.invariant.turns;
      few = ap (λ (xs : List PlanRow). length xs) whole ∙ c.move_pages.auto.rows ∙ ap (λ (xs : List PlanRow). length xs) c.deref_mut.ensures.value ∙ c.loop-left.invariant.few;
    }

-- ---- none is wanted

pub returns-then-limit-eq0-clause-list : goal.returns-then-limit-eq0-clause-list
returns-then-limit-eq0-clause-list c =
    let none = c.new.ensures in
    let empty = empty-length c.new.result none in
    record {
      each_next = λ i l. absurd (none_in c.new.result i none l);
      no_more = omega (arith, empty);
      ends = λ fewer. absurd (omega (arith, fewer, c.if-limit-eq0.true));
    }

pub returns-then-limit-eq0-clause-within : goal.returns-then-limit-eq0-clause-within
returns-then-limit-eq0-clause-within c k d l = absurd (none_in c.new.result k c.new.ensures l)

pub returns-then-limit-eq0-clause-applies : goal.returns-then-limit-eq0-clause-applies
returns-then-limit-eq0-clause-applies c i l = absurd (none_in c.new.result i c.new.ensures l)

pub returns-then-limit-eq0-clause-exact : goal.returns-then-limit-eq0-clause-exact
returns-then-limit-eq0-clause-exact c =
    rebalancing_list-only (hundredths c.args.tax) c.args.limit (rows_of c.args.rows.now) c.new.result (plan_rows-have_shares c.args.rows.now) (returns-then-limit-eq0-clause-list c)

-- ---- some are

pub returns-clause-list : goal.returns-clause-list
returns-clause-list c =
    let tax = hundredths c.args.tax in
    let rows = rows_of c.args.rows.now in
    let moves = c.loop-left.plan in
    let list : IsRebalancingList tax c.args.limit rows moves = record {
      each_next = c.loop-left.invariant.each_next;
      no_more = omega arith;
      ends = λ fewer. elim c.loop-left-test.branch [
        | else-loop-left-test w ↦ absurd (omega arith)
        | then-loop-left-test+in_default w ↦ subst (λ (xs : List Row). (giver : ℕ) → ¬ IsNextGiver tax xs giver) c.loop-left.invariant.rows
            (subst (λ (xs : List PlanRow). (giver : ℕ) → ¬ IsNextGiver tax (rows_of xs) giver) w.deref.ensures.value w.in_default.ensures.none)
      ];
    } in
    list

pub returns-clause-exact : goal.returns-clause-exact
returns-clause-exact c =
    let rows = c.args.rows.now in
    rebalancing_list-only (hundredths c.args.tax) c.args.limit (rows_of rows) c.loop-left.plan (plan_rows-have_shares rows) (returns-clause-list c)

pub returns-clause-within : goal.returns-clause-within
returns-clause-within c = rebalancing_within (hundredths c.args.tax) c.args.rows.now c.loop-left.plan c.loop-left.invariant.each_next

pub returns-clause-applies : goal.returns-clause-applies
returns-clause-applies c = rebalancing_applies (hundredths c.args.tax) (rows_of c.args.rows.now) c.loop-left.plan (plan_rows-have_shares c.args.rows.now) c.loop-left.invariant.each_next

pub returns-clause-memory : goal.returns-clause-memory
returns-clause-memory c = tt
