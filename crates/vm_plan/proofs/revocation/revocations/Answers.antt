use Rattle.std.proofs.Common.{◌≡◌, ◌++◌, ◌+◌, ◌-◌, ◌^◌, ◌<◌, ◌≤◌, ℕ, [], List, length, Option, Result, Ok, Err, IfErr, IsNone, IsSomeAnd, All, replicate, slice_get, ⊎_elim, sym, refl, ap, ◌∙◌, subst, arith}
use Rattle.std.proofs.lemmas.Grind.{fold-append}
use Rattle.std.proofs.lemmas.List.{length-append, length-map, length-replicate, with_items_is}
use Rattle.std.proofs.lemmas.Option.{slice_get_cases}
use Rattle.std.proofs.lemmas.Result.{IfOk-from_err}
use Rattle.vm_tax.specs.Ratio.{Ratio, hundredths}
use Rattle.vm_tax.specs.Offers.{IsLeast}
use Rattle.vm_plan.specs.declared.row.PlanRow.{PlanRow}
use Rattle.vm_plan.specs.Moves.{EachMove}
use Rattle.vm_plan.specs.Row.{Row, revocable_ratios, change_at}
use Rattle.vm_plan.specs.PlanRow.{row_of, rows_of}
use Rattle.vm_plan.specs.Revocation.{rows_after, revoked_row, revocation_list, IsRevocationList}
use Rattle.vm_plan.specs.Runs.{lowered_row, CanLose, IsFall}
use Rattle.vm_plan.specs.Track.{IsTracked}
use Rattle.vm_plan.specs.declared.tracking.Kind.TheVariants.{Revocable}
use Rattle.vm_plan.proofs.ListLemmas.{revocation_list-only}
use Rattle.vm_plan.proofs.MoveLemmas.{empty-length, none_in, none_tracked}
use Rattle.vm_plan.proofs.Places.{length-rows_after, revocation_within, revocation_applies}
use Rattle.vm_plan.proofs.RevocationRunLemmas.{each-fall, fall_above, fall_some, rows-fall, target-fall}
use Rattle.vm_plan.proofs.RowLemmas.{plan_rows-have_shares}
use Rattle.vm_plan.proofs.SumLemmas.{few_targets, total_target}
use Rattle.vm_plan.proofs.revocation.revocations.Goals as goal
use Rattle.vm_plan.proofs.revocation.revocations.Goals.{else-loop-left-test, then-loop-left-test+in_default}

-- ---- what several goals want

any_err : {T E : Type 0} (r : Result T E) (P : Type 0) → P → IfErr r (λ _. P)
any_err (Ok x) P h = tt
any_err (Err e) P h = h

none_yet : (moves : List ℕ) (n : ℕ) → moves ≡ [] → length moves + n ≡ n
none_yet moves n e = let empty = empty-length moves e in omega (arith, empty)

none_more : (moves : List ℕ) (n m : ℕ) → moves ≡ [] → m ≡ n → m + length moves ≡ n
none_more moves n m e same = let empty = empty-length moves e in omega (arith, empty, same)

-- sums, apart from all that is known in a turn
few_moves : (start after new moves count : ℕ) → after + moves ≡ start → new + count ≡ after → start ≤ 67108864 → moves + count < 2 ^ 32
few_moves start after new moves count e f few = omega arith

fewer : (left taken count : ℕ) → taken ≡ count → 0 < count → count ≤ left → left - taken < left
fewer left taken count e some within = omega arith

turns_left : (moves : List ℕ) (count position left taken wanted : ℕ) → taken ≡ count → count ≤ left → length moves + left ≡ wanted
    → length (moves ++ replicate count position) + (left - taken) ≡ wanted
turns_left moves count position left taken wanted e within turns =
    omega (arith, length-append moves (replicate count position), length-replicate count position)

targets_left : (moves : List ℕ) (count position new old start : ℕ) → new + count ≡ old → old + length moves ≡ start
    → new + length (moves ++ replicate count position) ≡ start
targets_left moves count position new old start e f =
    omega (arith, length-append moves (replicate count position), length-replicate count position)

fall_within : (rows : List PlanRow) (k count : ℕ) → IsSomeAnd (slice_get (rows_of rows) k) (CanLose count) → k < length rows
fall_within rows k count can =
    ⊎_elim
    (λ here. subst (λ (n : ℕ). k < n) (length-map rows row_of) here.1)
    (λ past. absurd (subst (λ (o : Option Row). IsSomeAnd o (CanLose count)) past.1 can))
    (slice_get_cases (rows_of rows) k).1

-- who can lose a page is among the rows at the start
some_rows : (rows after : List PlanRow) (moves : List ℕ) (k count : ℕ) → rows_of after ≡ rows_after (rows_of rows) moves → IsSomeAnd (slice_get (rows_of after) k) (CanLose count) → 0 < length rows
some_rows rows after moves k count e can =
    let there = fall_within after k count can in
    let long = sym (length-map after row_of) ∙ ap length e ∙ length-rows_after (rows_of rows) moves ∙ length-map rows row_of in
    omega (arith, there, long)

-- ---- before the loop

pub returns-in_err-after : goal.returns-in_err-after
returns-in_err-after c =
    let failed = c.from_residual.ensures.0 in
    let wants : 0 < c.args.wanted = omega (arith, c.if-wanted-eq0.false) in
    record {
      list = IfOk-from_err _ _ failed;
      exact = IfOk-from_err _ _ failed;
      within = IfOk-from_err _ _ failed;
      applies = IfOk-from_err _ _ failed;
      memory = any_err _ ((0 < length c.args.rows.now) × (0 < c.args.wanted)) (c.in_err-after.ensures.memory, wants);
    }

pub returns-in_err-winners : goal.returns-in_err-winners
returns-in_err-winners c =
    let failed = c.from_residual-in_err-winners.ensures.0 in
    let wants : 0 < c.args.wanted = omega (arith, c.if-wanted-eq0.false) in
    record {
      list = IfOk-from_err _ _ failed;
      exact = IfOk-from_err _ _ failed;
      within = IfOk-from_err _ _ failed;
      applies = IfOk-from_err _ _ failed;
      memory = any_err _ ((0 < length c.args.rows.now) × (0 < c.args.wanted)) (c.in_err-winners.ensures.memory, wants);
    }

pub loop-left-init : goal.loop-left-init
loop-left-init c =
    let rows = c.args.rows.now in
    let copied : rows_of c.in_ok-after.after.items ≡ rows_of rows = ap rows_of c.in_ok-after.ensures.items in
    record {
      rows = copied ∙ ap (λ (xs : List ℕ). rows_after (rows_of rows) xs) (sym c.new-plan.ensures);
      tracked = subst (λ (xs : List Row). IsTracked Revocable c.args.tax c.in_ok-winners.winners xs) (sym copied) c.in_ok-winners.ensures.tracked;
      each_least = λ i l. absurd (none_in c.new-plan.result i c.new-plan.ensures l);
      turns = none_yet c.new-plan.result c.args.wanted c.new-plan.ensures;
      targets = none_more c.new-plan.result (total_target (rows_of rows)) _ c.new-plan.ensures (ap total_target copied);
    }

-- ---- a turn

pub fall_length-count-requires-clause-least : goal.fall_length-count-requires-clause-least
fall_length-count-requires-clause-least c =
    let tax = hundredths c.args.tax in
    let offers = c.loop-left.invariant.tracked.ratios in
    subst (λ (xs : List PlanRow). IsLeast (revocable_ratios tax (rows_of xs)) c.in-Some.position) (sym c.deref.ensures.value) (subst (λ (xs : List (Option Ratio)). IsLeast xs c.in-Some.position) offers c.in-Some.ensures.least)

pub fall_length-count-requires-clause-tracked : goal.fall_length-count-requires-clause-tracked
fall_length-count-requires-clause-tracked c =
    subst (λ (xs : List PlanRow). IsTracked Revocable c.args.tax c.loop-left.winners (rows_of xs)) (sym c.deref.ensures.value) c.loop-left.invariant.tracked

pub take_pages-requires-clause-within : goal.take_pages-requires-clause-within
take_pages-requires-clause-within c =
    let can = subst (λ (xs : List PlanRow). IsSomeAnd (slice_get (rows_of xs) c.in-Some.position) (CanLose c.fall_length-count.result)) (c.deref.ensures.value ∙ sym c.deref_mut.ensures.value) c.fall_length-count.ensures.run.can in
    fall_within c.deref_mut.result.now c.in-Some.position c.fall_length-count.result can

pub take_pages-requires-clause-tracked : goal.take_pages-requires-clause-tracked
take_pages-requires-clause-tracked c =
    subst (λ (xs : List PlanRow). IsTracked Revocable c.args.tax c.fall_length-count.new.winners (rows_of xs)) (c.deref.ensures.value ∙ sym c.deref_mut.ensures.value) c.fall_length-count.ensures.tracked

pub take_pages-requires-clause-above : goal.take_pages-requires-clause-above
take_pages-requires-clause-above c =
    let can = subst (λ (xs : List PlanRow). IsSomeAnd (slice_get (rows_of xs) c.in-Some.position) (CanLose c.fall_length-count.result)) (c.deref.ensures.value ∙ sym c.deref_mut.ensures.value) c.fall_length-count.ensures.run.can in
    fall_above c.deref_mut.result.now c.in-Some.position c.fall_length-count.result can

pub push-requires-clause-some : goal.push-requires-clause-some
push-requires-clause-some c = fall_some (rows_of c.deref.result.now) c.in-Some.position c.fall_length-count.result c.fall_length-count.ensures.run.can

pub push-requires-clause-few : goal.push-requires-clause-few
push-requires-clause-few c =
    let rows = c.loop-left.after.items in
    let position = c.in-Some.position in
    let count = c.fall_length-count.result in
    let can = subst (λ (xs : List PlanRow). IsSomeAnd (slice_get (rows_of xs) position) (CanLose count)) c.deref.ensures.value c.fall_length-count.ensures.run.can in
    few_moves (total_target (rows_of c.args.rows.now)) _ _ (length c.loop-left.plan) count c.loop-left.invariant.targets (target-fall (rows_of rows) position count can) (few_targets c.args.rows.now c.requires.few)

pub returns-in_err-push : goal.returns-in_err-push
returns-in_err-push c =
    let failed = c.from_residual-in_err-push.ensures.0 in
    let can = subst (λ (xs : List PlanRow). IsSomeAnd (slice_get (rows_of xs) c.in-Some.position) (CanLose c.fall_length-count.result)) c.deref.ensures.value c.fall_length-count.ensures.run.can in
    let some = some_rows c.args.rows.now c.loop-left.after.items c.loop-left.plan c.in-Some.position c.fall_length-count.result c.loop-left.invariant.rows can in
    let wants : 0 < c.args.wanted = omega (arith, c.if-wanted-eq0.false) in
    record {
      list = IfOk-from_err _ _ failed;
      exact = IfOk-from_err _ _ failed;
      within = IfOk-from_err _ _ failed;
      applies = IfOk-from_err _ _ failed;
      memory = any_err _ ((0 < length c.args.rows.now) × (0 < c.args.wanted)) (some, wants);
    }

pub overflow_sub-left : goal.overflow_sub-left
overflow_sub-left c = subst (λ (n : ℕ). n ≤ c.loop-left.left) (sym c.from-left.ensures) c.fall_length-count.ensures.wanted

pub loop-left-smaller : goal.loop-left-smaller
loop-left-smaller c =
    let some = fall_some (rows_of c.deref.result.now) c.in-Some.position c.fall_length-count.result c.fall_length-count.ensures.run.can in
    fewer c.loop-left.left c.from-left.result c.fall_length-count.result c.from-left.ensures some c.fall_length-count.ensures.wanted

pub loop-left-preserved : goal.loop-left-preserved
loop-left-preserved c =
    let tax = hundredths c.args.tax in
    let rows = rows_of c.args.rows.now in
    let moves = c.loop-left.plan in
    let position = c.in-Some.position in
    let count = c.fall_length-count.result in
    let new = c.take_pages.new.rows in
    let whole = with_items_is c.loop-left.after new (c.take_pages.auto.rows ∙ c.deref_mut.ensures.len) in
    let pushed : c.push.new.self ≡ moves ++ replicate count position = c.in_ok-push.ensures in
    let fall = subst (λ (xs : List PlanRow). IsFall tax (rows_of xs) position count) c.deref.ensures.value c.fall_length-count.ensures.run in
    let taken = c.take_pages.ensures.taken ∙ ap (λ (xs : List PlanRow). change_at (lowered_row count) (rows_of xs) position) c.deref_mut.ensures.value in
    let after = taken ∙ rows-fall (rows_of c.loop-left.after.items) position count fall.can ∙ ap (λ (xs : List Row). rows_after xs (replicate count position)) c.loop-left.invariant.rows in
    let lower = ap (λ (n : ℕ). n + count) (ap total_target taken) ∙ target-fall (rows_of c.loop-left.after.items) position count fall.can in
    let total = total_target (rows_of new) in
    record {
      rows = ap (λ (xs : List PlanRow). rows_of xs) whole ∙ after ∙ sym (fold-append (change_at revoked_row) rows moves (replicate count position)) ∙ ap (λ (xs : List ℕ). rows_after rows xs) (sym pushed);
      tracked = subst (λ (xs : List PlanRow). IsTracked Revocable c.args.tax c.take_pages.new.winners (rows_of xs)) (sym whole) c.take_pages.ensures.tracked;
      each_least = subst (λ (xs : List ℕ). EachMove (λ before move. IsLeast (revocable_ratios tax (rows_after rows before)) move) xs) (sym pushed)
          (each-fall tax rows (rows_of c.loop-left.after.items) moves position count c.loop-left.invariant.rows fall c.loop-left.invariant.each_least);
      turns = ap (λ (xs : List ℕ). length xs + (c.loop-left.left - c.from-left.result)) pushed
          ∙ turns_left moves count position c.loop-left.left c.from-left.result c.args.wanted c.from-left.ensures c.fall_length-count.ensures.wanted c.loop-left.invariant.turns;
      targets = ap (λ (xs : List PlanRow). total_target (rows_of xs) + length c.push.new.self) whole ∙ ap (λ (xs : List ℕ). total + length xs) pushed
          ∙ targets_left moves count position total _ _ lower c.loop-left.invariant.targets;
    }

-- ---- none is wanted

pub returns-then-wanted-eq0-clause-list : goal.returns-then-wanted-eq0-clause-list
returns-then-wanted-eq0-clause-list c =
    let none = c.new.ensures in
    let empty = empty-length c.new.result none in
    record {
      each_least = λ i l. absurd (none_in c.new.result i none l);
      no_more = omega (arith, empty);
      no_fewer = λ fewer. absurd (omega (arith, fewer, c.if-wanted-eq0.true));
    }

pub returns-then-wanted-eq0-clause-within : goal.returns-then-wanted-eq0-clause-within
returns-then-wanted-eq0-clause-within c k d l = absurd (none_in c.new.result k c.new.ensures l)

pub returns-then-wanted-eq0-clause-applies : goal.returns-then-wanted-eq0-clause-applies
returns-then-wanted-eq0-clause-applies c i l = absurd (none_in c.new.result i c.new.ensures l)

pub returns-then-wanted-eq0-clause-exact : goal.returns-then-wanted-eq0-clause-exact
unfolding revocation_list
returns-then-wanted-eq0-clause-exact c =
    let tax = hundredths c.args.tax in
    let rows = rows_of c.args.rows.now in
    c.new.ensures ∙ ap (λ n. revocation_list tax n rows) (sym c.if-wanted-eq0.true)

-- ---- some are

pub returns-clause-list : goal.returns-clause-list
returns-clause-list c =
    let tax = hundredths c.args.tax in
    let rows = rows_of c.args.rows.now in
    let moves = c.loop-left.plan in
    let list : IsRevocationList tax c.args.wanted rows moves = record {
      each_least = c.loop-left.invariant.each_least;
      no_more = omega arith;
      no_fewer = λ fewer. elim c.loop-left-test.branch [
        | else-loop-left-test w ↦ absurd (omega arith)
        | then-loop-left-test+in_default w ↦ subst (λ (xs : List Row). All IsNone (revocable_ratios tax xs)) c.loop-left.invariant.rows (none_tracked Revocable c.args.tax c.loop-left.winners (rows_of c.loop-left.after.items) c.loop-left.invariant.tracked (w.in_default.ensures.none.0 refl))
      ];
    } in
    list

pub returns-clause-exact : goal.returns-clause-exact
returns-clause-exact c =
    let rows = c.args.rows.now in
    revocation_list-only (hundredths c.args.tax) c.args.wanted (rows_of rows) c.loop-left.plan (plan_rows-have_shares rows) (returns-clause-list c)

pub returns-clause-within : goal.returns-clause-within
returns-clause-within c = revocation_within (hundredths c.args.tax) c.args.wanted c.args.rows.now c.loop-left.plan (returns-clause-list c)

pub returns-clause-applies : goal.returns-clause-applies
returns-clause-applies c =
    let rows = rows_of c.args.rows.now in
    revocation_applies (hundredths c.args.tax) c.args.wanted rows c.loop-left.plan (returns-clause-list c)

pub returns-clause-memory : goal.returns-clause-memory
returns-clause-memory c = tt
