use Rattle.std.proofs.Common.{◌≡◌, ℕ, [], ◌+◌, ◌-◌, ◌^◌, ◌<◌, ◌≤◌, ◌++◌, List, Option, Result, Ok, Err, All, IfErr, IfSome, IsSomeAnd, length, replicate, slice_get, ⊎_elim, sym, ap, ◌∙◌, subst, arith}
use Rattle.std.proofs.lemmas.Bool.{false≢true}
use Rattle.std.proofs.lemmas.Grind.{fold-append}
use Rattle.std.proofs.lemmas.List.{length-append, length-map, length-replicate, with_items_is}
use Rattle.std.proofs.lemmas.Option.{slice_get_cases}
use Rattle.std.proofs.lemmas.Result.{IfOk-from_err}
use Rattle.vm_tax.specs.Ratio.{hundredths}
use Rattle.vm_plan.specs.declared.row.PlanRow.{PlanRow}
use Rattle.vm_plan.specs.Moves.{EachMove}
use Rattle.vm_plan.specs.Row.{Row, change_at}
use Rattle.vm_plan.specs.PlanRow.{row_of, rows_of, pool_of}
use Rattle.vm_plan.specs.Grants.{Pool, CanGrow, IsNextGrant, IsGrantList, granted, pool_after, total_demand}
use Rattle.vm_plan.specs.Runs.{grown_row, frames_for_all, CanGrowBy, IsRun}
use Rattle.vm_plan.specs.Track.{IsTracked, AreRivals}
use Rattle.vm_plan.specs.declared.tracking.Kind.TheVariants.{Wanting}
use Rattle.vm_plan.proofs.ListLemmas.{grant_list-only}
use Rattle.vm_plan.proofs.MoveLemmas.{empty-length, none_in}
use Rattle.vm_plan.proofs.Places.{grants_within, grants_apply, no_grants}
use Rattle.vm_plan.proofs.GrantRunLemmas.{demand-run, each-run, pool-run, run_cost, run_demand, run_room, run_some, target-run}
use Rattle.vm_plan.proofs.RowLemmas.{plan_rows-have_shares}
use Rattle.vm_plan.proofs.SumLemmas.{few_targets, total_target}
use Rattle.vm_plan.proofs.grants.grant.Goals as goal

-- ---- what several goals want

any_err : {T E : Type 0} (r : Result T E) (P : Type 0) → P → IfErr r (λ _. P)
any_err (Ok x) P h = tt
any_err (Err e) P h = h

none_more : (moves : List ℕ) (n m : ℕ) → moves ≡ [] → m ≡ n → m ≡ n + length moves
none_more moves n m e same = let empty = empty-length moves e in omega (arith, empty, same)

-- sums, apart from all that is known in a turn
few_moves : (start after new moves count : ℕ) → after ≡ start + moves → new ≡ after + count → new ≤ 67108864 → moves + count < 2 ^ 32
few_moves start after new moves count e f few = omega arith

fewer : (now old count : ℕ) → now + count ≡ old → 1 ≤ count → now < old
fewer now old count e some = omega arith

longer : (start count position : ℕ) (moves : List ℕ) → (start + length moves) + count ≡ start + length (moves ++ replicate count position)
longer start count position moves = omega (arith, length-append moves (replicate count position), length-replicate count position)

grow_within : (rows : List PlanRow) (k count free : ℕ) → IsSomeAnd (slice_get (rows_of rows) k) (CanGrowBy count free) → k < length rows
grow_within rows k count free can =
    ⊎_elim
    (λ here. subst (λ (n : ℕ). k < n) (length-map rows row_of) here.1)
    (λ past. absurd (subst (λ (o : Option Row). IsSomeAnd o (CanGrowBy count free)) past.1 can))
    (slice_get_cases (rows_of rows) k).1

-- ---- before the loop

pub returns-in_err-after : goal.returns-in_err-after
returns-in_err-after c =
    let failed = c.from_residual.ensures.0 in
    let can : CanGrow c.args.state c.args.thresholds.now (pool_of c.args.free c.args.rows.now) = c.can_grow.ensures.0 c.if-not-can_grow.false in
    record {
      list = IfOk-from_err _ _ failed;
      exact = IfOk-from_err _ _ failed;
      within = IfOk-from_err _ _ failed;
      applies = IfOk-from_err _ _ failed;
      memory = any_err _ _ can;
    }

pub returns-in_err-rivals : goal.returns-in_err-rivals
returns-in_err-rivals c =
    let failed = c.from_residual-in_err-rivals.ensures.0 in
    let can : CanGrow c.args.state c.args.thresholds.now (pool_of c.args.free c.args.rows.now) = c.can_grow.ensures.0 c.if-not-can_grow.false in
    record {
      list = IfOk-from_err _ _ failed;
      exact = IfOk-from_err _ _ failed;
      within = IfOk-from_err _ _ failed;
      applies = IfOk-from_err _ _ failed;
      memory = any_err _ _ can;
    }

pub returns-in_err-wanting : goal.returns-in_err-wanting
returns-in_err-wanting c =
    let failed = c.from_residual-in_err-wanting.ensures.0 in
    let can : CanGrow c.args.state c.args.thresholds.now (pool_of c.args.free c.args.rows.now) = c.can_grow.ensures.0 c.if-not-can_grow.false in
    record {
      list = IfOk-from_err _ _ failed;
      exact = IfOk-from_err _ _ failed;
      within = IfOk-from_err _ _ failed;
      applies = IfOk-from_err _ _ failed;
      memory = any_err _ _ can;
    }

pub loop-position-init : goal.loop-position-init
loop-position-init c =
    let rows = c.args.rows.now in
    let items : c.in_ok-after.after.items ≡ rows = c.in_ok-after.ensures.items in
    let start = pool_of c.args.free rows in
    let copied : rows_of c.in_ok-after.after.items ≡ rows_of rows = ap rows_of items in
    record {
      pool = ap (λ (xs : List PlanRow). pool_of c.args.free xs) items ∙ ap (λ (xs : List ℕ). pool_after start xs) (sym c.new-plan.ensures);
      each_next = λ i l. absurd (none_in c.new-plan.result i c.new-plan.ensures l);
      rivals = subst (λ (xs : List Row). AreRivals c.args.tax c.in_ok-rivals.rivals xs) (sym copied) c.in_ok-rivals.ensures.tracked;
      for_state = c.in_ok-rivals.ensures.for_state;
      wanting = subst (λ (xs : List Row). IsTracked Wanting c.args.tax c.in_ok-wanting.wanting xs) (sym copied) c.in_ok-wanting.ensures.tracked;
      held = subst (λ (xs : List PlanRow). All (λ row. row.target ≤ row.held) xs) (sym items) c.requires.held;
      few = ap (λ (xs : List PlanRow). length xs) items;
      targets = none_more c.new-plan.result (total_target (rows_of rows)) _ c.new-plan.ensures (ap total_target copied);
    }

-- ---- a turn

pub next_grant-requires-clause-rivals : goal.next_grant-requires-clause-rivals
next_grant-requires-clause-rivals c =
    subst (λ (xs : List PlanRow). AreRivals c.args.tax c.loop-position.rivals (rows_of xs)) (sym c.deref.ensures.value) c.loop-position.invariant.rivals

pub next_grant-requires-clause-wanting : goal.next_grant-requires-clause-wanting
next_grant-requires-clause-wanting c =
    subst (λ (xs : List PlanRow). IsTracked Wanting c.args.tax c.loop-position.wanting (rows_of xs)) (sym c.deref.ensures.value) c.loop-position.invariant.wanting

pub run_length-count-requires-clause-next : goal.run_length-count-requires-clause-next
run_length-count-requires-clause-next c =
    subst (λ (xs : List PlanRow). IsNextGrant c.args.state c.args.thresholds.now (hundredths c.args.tax) (pool_of c.loop-position.left xs) c.in-Some.position) (c.deref.ensures.value ∙ sym c.deref-in-Some.ensures.value) c.in-Some.ensures.some

pub run_length-count-requires-clause-wanting : goal.run_length-count-requires-clause-wanting
run_length-count-requires-clause-wanting c =
    subst (λ (xs : List PlanRow). IsTracked Wanting c.args.tax c.loop-position.wanting (rows_of xs)) (sym c.deref-in-Some.ensures.value) c.loop-position.invariant.wanting

-- the run that was found, in the rows as the loop has them
pub run_length-count-requires-clause-held : goal.run_length-count-requires-clause-held
run_length-count-requires-clause-held c = subst (λ (xs : List PlanRow). All (λ row. row.target ≤ row.held) xs) (sym c.deref-in-Some.ensures.value) c.loop-position.invariant.held

pub give_pages-left-requires-clause-within : goal.give_pages-left-requires-clause-within
give_pages-left-requires-clause-within c =
    let can = subst (λ (xs : List PlanRow). IsSomeAnd (slice_get (rows_of xs) c.in-Some.position) (CanGrowBy c.run_length-count.result c.loop-position.left)) (c.deref-in-Some.ensures.value ∙ sym c.deref_mut.ensures.value) c.run_length-count.ensures.run.can in
    grow_within c.deref_mut.result.now c.in-Some.position c.run_length-count.result c.loop-position.left can

pub give_pages-left-requires-clause-rivals : goal.give_pages-left-requires-clause-rivals
give_pages-left-requires-clause-rivals c =
    subst (λ (xs : List PlanRow). AreRivals c.args.tax c.loop-position.rivals (rows_of xs)) (sym c.deref_mut.ensures.value) c.loop-position.invariant.rivals

pub give_pages-left-requires-clause-wanting : goal.give_pages-left-requires-clause-wanting
give_pages-left-requires-clause-wanting c =
    subst (λ (xs : List PlanRow). IsTracked Wanting c.args.tax c.run_length-count.new.wanting (rows_of xs)) (c.deref-in-Some.ensures.value ∙ sym c.deref_mut.ensures.value) c.run_length-count.ensures.wanting

pub give_pages-left-requires-clause-demand : goal.give_pages-left-requires-clause-demand
give_pages-left-requires-clause-demand c =
    let can = subst (λ (xs : List PlanRow). IsSomeAnd (slice_get (rows_of xs) c.in-Some.position) (CanGrowBy c.run_length-count.result c.loop-position.left)) (c.deref-in-Some.ensures.value ∙ sym c.deref_mut.ensures.value) c.run_length-count.ensures.run.can in
    run_demand c.deref_mut.result.now c.in-Some.position c.run_length-count.result c.loop-position.left can

pub give_pages-left-requires-clause-room : goal.give_pages-left-requires-clause-room
give_pages-left-requires-clause-room c =
    let can = subst (λ (xs : List PlanRow). IsSomeAnd (slice_get (rows_of xs) c.in-Some.position) (CanGrowBy c.run_length-count.result c.loop-position.left)) (c.deref-in-Some.ensures.value ∙ sym c.deref_mut.ensures.value) c.run_length-count.ensures.run.can in
    run_room c.deref_mut.result.now c.in-Some.position c.run_length-count.result c.loop-position.left can

pub give_pages-left-requires-clause-held : goal.give_pages-left-requires-clause-held
give_pages-left-requires-clause-held c = subst (λ (xs : List PlanRow). All (λ row. row.target ≤ row.held) xs) (sym c.deref_mut.ensures.value) c.loop-position.invariant.held

pub overflow_sub-left : goal.overflow_sub-left
overflow_sub-left c =
    let can = subst (λ (xs : List PlanRow). IsSomeAnd (slice_get (rows_of xs) c.in-Some.position) (CanGrowBy c.run_length-count.result c.loop-position.left)) (c.deref-in-Some.ensures.value ∙ sym c.deref_mut.ensures.value) c.run_length-count.ensures.run.can in
    run_cost c.deref_mut.result.now c.in-Some.position c.give_pages-left.result c.run_length-count.result c.loop-position.left can c.give_pages-left.ensures.frames

pub returns-in_err-push : goal.returns-in_err-push
returns-in_err-push c =
    let failed = c.from_residual-in_err-push.ensures.0 in
    let can : CanGrow c.args.state c.args.thresholds.now (pool_of c.args.free c.args.rows.now) = c.can_grow.ensures.0 c.if-not-can_grow.false in
    record {
      list = IfOk-from_err _ _ failed;
      exact = IfOk-from_err _ _ failed;
      within = IfOk-from_err _ _ failed;
      applies = IfOk-from_err _ _ failed;
      memory = any_err _ _ can;
    }

pub loop-position-smaller : goal.loop-position-smaller
loop-position-smaller c =
    let rows = c.loop-position.after.items in
    let position = c.in-Some.position in
    let count = c.run_length-count.result in
    let can = subst (λ (xs : List PlanRow). IsSomeAnd (slice_get (rows_of xs) position) (CanGrowBy count c.loop-position.left)) c.deref-in-Some.ensures.value c.run_length-count.ensures.run.can in
    let whole = with_items_is c.loop-position.after c.give_pages-left.new.rows (c.give_pages-left.auto.rows ∙ c.deref_mut.ensures.len) in
    let given = c.give_pages-left.ensures.given ∙ ap (λ (xs : List PlanRow). change_at (grown_row count) (rows_of xs) position) c.deref_mut.ensures.value in
    let less = demand-run (rows_of rows) position count c.loop-position.left can in
    let now = ap (λ (xs : List PlanRow). total_demand (rows_of xs)) whole ∙ ap total_demand given in
    let some = run_some (rows_of rows) position count c.loop-position.left can in
    subst (λ (n : ℕ). n < total_demand (rows_of rows)) (sym now) (fewer (total_demand (change_at (grown_row count) (rows_of rows) position)) _ count less some)

pub push-requires-clause-some : goal.push-requires-clause-some
push-requires-clause-some c = run_some (rows_of c.deref-in-Some.result.now) c.in-Some.position c.run_length-count.result c.loop-position.left c.run_length-count.ensures.run.can

pub push-requires-clause-few : goal.push-requires-clause-few
push-requires-clause-few c =
    let rows = c.loop-position.after.items in
    let position = c.in-Some.position in
    let count = c.run_length-count.result in
    let can = subst (λ (xs : List PlanRow). IsSomeAnd (slice_get (rows_of xs) position) (CanGrowBy count c.loop-position.left)) c.deref-in-Some.ensures.value c.run_length-count.ensures.run.can in
    let new = c.give_pages-left.new.rows in
    let given = c.give_pages-left.ensures.given ∙ ap (λ (xs : List PlanRow). change_at (grown_row count) (rows_of xs) position) c.deref_mut.ensures.value in
    let wide : length new ≡ length c.args.rows.now = c.give_pages-left.auto.rows ∙ ap (λ (xs : List PlanRow). length xs) c.deref_mut.ensures.value ∙ c.loop-position.invariant.few in
    let more = ap total_target given ∙ target-run (rows_of rows) position count c.loop-position.left can in
    few_moves (total_target (rows_of c.args.rows.now)) _ (total_target (rows_of new)) (length c.loop-position.plan) count c.loop-position.invariant.targets more
    (few_targets new (subst (λ (n : ℕ). n ≤ 256) (sym wide) c.requires.few))

pub loop-position-preserved : goal.loop-position-preserved
loop-position-preserved c =
    let tax = hundredths c.args.tax in
    let rows = c.loop-position.after.items in
    let moves = c.loop-position.plan in
    let position = c.in-Some.position in
    let count = c.run_length-count.result in
    let frames = c.give_pages-left.result in
    let new = c.give_pages-left.new.rows in
    let start = pool_of c.args.free c.args.rows.now in
    let run = subst (λ (xs : List PlanRow). IsRun c.args.state c.args.thresholds.now tax (pool_of c.loop-position.left xs) position count) c.deref-in-Some.ensures.value c.run_length-count.ensures.run in
    let cost = subst (λ (xs : List PlanRow). IfSome (slice_get xs position) (λ row. frames ≡ frames_for_all count (row_of row))) c.deref_mut.ensures.value c.give_pages-left.ensures.frames in
    let whole = with_items_is c.loop-position.after new (c.give_pages-left.auto.rows ∙ c.deref_mut.ensures.len) in
    let given = c.give_pages-left.ensures.given ∙ ap (λ (xs : List PlanRow). change_at (grown_row count) (rows_of xs) position) c.deref_mut.ensures.value in
    let after = pool-run c.loop-position.left frames count rows new position run.can cost given in
    let then = ap (λ (pool : Pool). pool_after pool (replicate count position)) c.loop-position.invariant.pool in
    let pushed : c.push.new.self ≡ moves ++ replicate count position = c.in_ok-push.ensures in
    let more = ap total_target given ∙ target-run (rows_of rows) position count c.loop-position.left run.can ∙ ap (λ (n : ℕ). n + count) c.loop-position.invariant.targets in
    let total = total_target (rows_of c.args.rows.now) in
    record {
      pool = ap (λ (xs : List PlanRow). pool_of (c.loop-position.left - frames) xs) whole ∙ after ∙ then ∙ sym (fold-append granted start moves (replicate count position)) ∙ ap (λ (xs : List ℕ). pool_after start xs) (sym pushed);
      each_next = subst (λ (xs : List ℕ). EachMove (λ before move. IsNextGrant c.args.state c.args.thresholds.now tax (pool_after start before) move) xs) (sym pushed)
          (each-run c.args.state c.args.thresholds.now tax start (pool_of c.loop-position.left rows) moves position count c.loop-position.invariant.pool run c.loop-position.invariant.each_next);
      rivals = subst (λ (xs : List PlanRow). AreRivals c.args.tax c.give_pages-left.new.rivals (rows_of xs)) (sym whole) c.give_pages-left.ensures.rivals;
      for_state = (λ none. c.loop-position.invariant.for_state.0 (c.give_pages-left.ensures.none.0 none), λ high. c.give_pages-left.ensures.none.1 (c.loop-position.invariant.for_state.1 high));
      wanting = subst (λ (xs : List PlanRow). IsTracked Wanting c.args.tax c.give_pages-left.new.wanting (rows_of xs)) (sym whole) c.give_pages-left.ensures.wanting;
      held = subst (λ (xs : List PlanRow). All (λ row. row.target ≤ row.held) xs) (sym whole) c.give_pages-left.ensures.held;
      few = ap (λ (xs : List PlanRow). length xs) whole ∙ c.give_pages-left.auto.rows ∙ ap (λ (xs : List PlanRow). length xs) c.deref_mut.ensures.value ∙ c.loop-position.invariant.few;
      targets = ap (λ (xs : List PlanRow). total_target (rows_of xs)) whole ∙ more ∙ longer total count position moves ∙ ap (λ (xs : List ℕ). total + length xs) (sym pushed);
    }

-- ---- no guest can grow

pub returns-then-not-can_grow-clause-list : goal.returns-then-not-can_grow-clause-list
returns-then-not-can_grow-clause-list c =
    let t = c.args.thresholds.now in
    let pool = pool_of c.args.free c.args.rows.now in
    let none : ¬ CanGrow c.args.state t pool = λ can. false≢true (sym c.if-not-can_grow.true ∙ c.can_grow.ensures.1 can) in
    subst (λ (moves : List ℕ). IsGrantList c.args.state t (hundredths c.args.tax) pool moves) (sym c.new.ensures) (no_grants c.args.state t (hundredths c.args.tax) pool none)

pub returns-then-not-can_grow-clause-exact : goal.returns-then-not-can_grow-clause-exact
returns-then-not-can_grow-clause-exact c =
    let rows = c.args.rows.now in
    grant_list-only c.args.state c.args.thresholds.now (hundredths c.args.tax) (pool_of c.args.free rows) c.new.result (plan_rows-have_shares rows) (returns-then-not-can_grow-clause-list c)

pub returns-then-not-can_grow-clause-within : goal.returns-then-not-can_grow-clause-within
returns-then-not-can_grow-clause-within c k d l = absurd (none_in c.new.result k c.new.ensures l)

pub returns-then-not-can_grow-clause-applies : goal.returns-then-not-can_grow-clause-applies
returns-then-not-can_grow-clause-applies c i l = absurd (none_in c.new.result i c.new.ensures l)

-- ---- some guest can

pub returns-clause-list : goal.returns-clause-list
returns-clause-list c =
    let tax = hundredths c.args.tax in
    let ended = subst (λ (xs : List PlanRow). (position : ℕ) → ¬ IsNextGrant c.args.state c.args.thresholds.now tax (pool_of c.loop-position.left xs) position) c.deref.ensures.value c.in_default.ensures.none in
    let list : IsGrantList c.args.state c.args.thresholds.now tax (pool_of c.args.free c.args.rows.now) c.loop-position.plan = record {
      each_next = c.loop-position.invariant.each_next;
      ends = subst (λ (pool : Pool). (position : ℕ) → ¬ IsNextGrant c.args.state c.args.thresholds.now tax pool position) c.loop-position.invariant.pool ended;
    } in
    list

pub returns-clause-exact : goal.returns-clause-exact
returns-clause-exact c =
    let rows = c.args.rows.now in
    grant_list-only c.args.state c.args.thresholds.now (hundredths c.args.tax) (pool_of c.args.free rows) c.loop-position.plan (plan_rows-have_shares rows) (returns-clause-list c)

pub returns-clause-within : goal.returns-clause-within
returns-clause-within c =
    (grants_within c.args.state c.args.thresholds.now (hundredths c.args.tax) c.args.free c.args.rows.now c.loop-position.plan c.loop-position.invariant.each_next)

pub returns-clause-applies : goal.returns-clause-applies
returns-clause-applies c =
    (grants_apply c.args.state c.args.thresholds.now (hundredths c.args.tax) (pool_of c.args.free c.args.rows.now) c.loop-position.plan c.loop-position.invariant.each_next)
