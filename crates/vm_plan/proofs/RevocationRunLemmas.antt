-- Revocations from one guest that follow each other.
use Rattle.std.proofs.Common.{◌≡◌, ◌≢◌, ℕ, zero, suc, ◌+◌, ◌-◌, ◌*◌, ◌<◌, ◌≤◌, nat_lt, true, List, [], ◌∷◌, ◌++◌, Option, Some, None, IsNone, IsSomeAnd, IfSome, All, length, replicate, take, slice_get, slice_set, slice_index, get_or, inl, inr, ⊎_elim, sym, refl, ap, ◌∙◌, subst, arith}
use Rattle.std.specs.Option.{option_map_or}
use Rattle.std.proofs.lemmas.Bool.{cases_lt, cases_eq, lt-ltb}
use Rattle.std.proofs.lemmas.Option.{same_Some, cond_some, slice_get_within, get_or_from_slice_get}
use Rattle.std.proofs.lemmas.Grind.{fold-append}
use Rattle.std.proofs.lemmas.List.{get_or-set_other, get_or-set_same, get_or-replicate, length-map, length-replicate, map-set, replicate_more, set-get_or, set-set, take-replicate}
use Rattle.std.proofs.Math.Nat.{mul-le-mul_left, mul-le-mul_right}
use Rattle.vm_tax.specs.Ratio.{Ratio, Tax, IsBelow, adjusted_ratio, weight_of}
use Rattle.vm_tax.specs.Offers.{offer_at, AllHaveShares, IsLeast}
use Rattle.vm_tax.proofs.Fractions.{IsBelow-trans, adjusted_ratio-shares}
use Rattle.vm_tax.proofs.OfferLemmas.{none_at}
use Rattle.vm_plan.specs.declared.row.PlanRow.{PlanRow}
use Rattle.vm_plan.specs.PlanRow.{row_of, rows_of}
use Rattle.vm_plan.specs.Row.{Row, ratio_with, revocable_ratio, revocable_ratios, others, change_at}
use Rattle.vm_plan.specs.Moves.{EachMove}
use Rattle.vm_plan.specs.Revocation.{revoked_row, rows_after}
use Rattle.vm_plan.specs.Runs.{lowered_row, CanLose, IsBehind, IsFall}
use Rattle.vm_plan.proofs.GrantLemmas.{plan_row_fact, row_at}
use Rattle.vm_plan.proofs.GrantRunLemmas.{can_fact, row_in, some_row_in}
use Rattle.vm_plan.proofs.MoveLemmas.{each-append, rows_after-push}
use Rattle.vm_plan.proofs.Places.{revocable_row}
use Rattle.vm_plan.proofs.RowLemmas.{revocable-have_shares, others-have_shares, other_stands, offer_at-revocable, plan_rows-have_shares}
use Rattle.vm_plan.proofs.SumLemmas.{sum-change, total_target}

-- ---- one revocation after another

pub lowered_row-none : (row : Row) → lowered_row 0 row ≡ row
lowered_row-none row = let target : row.target - 0 ≡ row.target = omega arith in λ i. record row { target = target i }

pub lowered_row-more : (k : ℕ) (row : Row) → revoked_row (lowered_row k row) ≡ lowered_row (k + 1) row
lowered_row-more k row = let target : (row.target - k) - 1 ≡ row.target - (k + 1) = omega arith in λ i. record row { target = target i }

-- the rows after so many revocations from the guest of a row
abbrev pub rows_with : List Row → ℕ → Row → ℕ → List Row
rows_with rows position row k = slice_set rows position (lowered_row k row)

rows_with-none : (rows : List Row) (position : ℕ) (guest : Row) → slice_get rows position ≡ Some guest → rows ≡ rows_with rows position guest 0
rows_with-none rows position guest at =
    let here = get_or_from_slice_get rows position guest guest at in
    sym (ap (slice_set rows position) (lowered_row-none guest ∙ sym here) ∙ set-get_or rows position guest)

rows_with-more : (rows : List Row) (position : ℕ) (row : Row) (k : ℕ) → slice_get rows position ≡ Some row → change_at revoked_row (rows_with rows position row k) position ≡ rows_with rows position row (k + 1)
rows_with-more rows position row k at =
    let new = lowered_row k row in
    let there = row_in rows position row new at in
    let now = slice_set rows position new in
    let changed : change_at revoked_row now position ≡ slice_set now position (revoked_row new) = ap (λ (o : Option Row). option_map_or (λ row. slice_set now position (revoked_row row)) o now) there in
    changed ∙ set-set rows position new (revoked_row new) ∙ ap (slice_set rows position) (lowered_row-more k row)

rows_after-run : (rows : List Row) (position : ℕ) (row : Row) (k : ℕ) → slice_get rows position ≡ Some row → rows_after rows (replicate k position) ≡ rows_with rows position row k
rows_after-run rows position row zero at = rows_with-none rows position row at
rows_after-run rows position row (suc k) at =
    let more = replicate_more k position in
    let next : k + 1 ≡ suc k = omega arith in
    ap (λ (n : ℕ). rows_after rows (replicate n position)) (sym next)
    ∙ ap (rows_after rows) (sym more)
    ∙ rows_after-push rows (replicate k position) position
    ∙ ap (λ (xs : List Row). change_at revoked_row xs position) (rows_after-run rows position row k at)
    ∙ rows_with-more rows position row k at
    ∙ ap (rows_with rows position row) next

each_in_fall : (tax : Tax) (rows : List Row) (position : ℕ) (row : Row) (count : ℕ) → slice_get rows position ≡ Some row
    → ((k : ℕ) → k < count → IsLeast (revocable_ratios tax (rows_with rows position row k)) position) → EachMove (λ before move. IsLeast (revocable_ratios tax (rows_after rows before)) move) (replicate count position)
each_in_fall tax rows position row count at least i l =
    let wide = length-replicate count position in
    let few : i < count = omega (arith, l, wide) in
    let before : take i (replicate count position) ≡ replicate i position = take-replicate i count position (omega (arith, few)) in
    let there : slice_index (replicate count position) i ≡ position = get_or-replicate count i position 0 few in
    let then = ap (rows_after rows) before ∙ rows_after-run rows position row i at in
    subst (λ (xs : List Row). IsLeast (revocable_ratios tax xs) (slice_index (replicate count position) i)) (sym then) (subst (λ (n : ℕ). IsLeast (revocable_ratios tax (rows_with rows position row i)) n) (sym there) (least i few))

-- ---- the guest is taken from first as long as it stands before the best of the others

-- with more pages its price is no greater
pub behind_before : (tax : Tax) (row : Row) (position pages last : ℕ) (rival : Ratio) (other : ℕ) → last ≤ pages → IsBehind tax row position last rival other → IsBehind tax row position pages rival other
unfolding adjusted_ratio
behind_before tax row position pages last rival other few behind =
    let weight = weight_of tax row.active in
    let more : last * weight ≤ pages * weight = mul-le-mul_right weight few in
    let price : rival.shares * (last * weight) ≤ rival.shares * (pages * weight) = mul-le-mul_left rival.shares more in
    go price behind
  where
    go : rival.shares * (last * weight_of tax row.active) ≤ rival.shares * (pages * weight_of tax row.active) → IsBehind tax row position last rival other → IsBehind tax row position pages rival other
    go price (inl l) = let strict : row.shares * rival.weighted_pages < rival.shares * (pages * weight_of tax row.active) = omega (arith, price, l) in inl strict
    go price (inr e) =
        ⊎_elim
        (λ (strict : row.shares * rival.weighted_pages < rival.shares * (pages * weight_of tax row.active)). inl strict)
        (λ (most : rival.shares * (pages * weight_of tax row.active) ≤ row.shares * rival.weighted_pages).
        let same : row.shares * rival.weighted_pages ≡ rival.shares * (pages * weight_of tax row.active) = let is = e.0 in omega (arith, is, price, most) in
        inr (same, e.1))
        (cases_lt (row.shares * rival.weighted_pages) (rival.shares * (pages * weight_of tax row.active)))

-- what stands before the best of the others stands before each of them
pub below_each : (offers : List (Option Ratio)) (a : Ratio) (position other : ℕ) → (best : IsLeast offers other) → 0 < a.shares → AllHaveShares offers → IsBelow a position best.ratio other
    → (o : ℕ) (that : Ratio) → offer_at offers o ≡ Some that → IsBelow a position that o
below_each offers a position other best some shares mine o that e =
    ⊎_elim
    (λ (same : o ≡ other).
    let there = subst (λ (n : ℕ). offer_at offers n ≡ Some that) same e in
    let ratio = same_Some best.ratio that (sym best.here ∙ there) in
    subst (λ (n : ℕ). IsBelow a position that n) (sym same) (subst (λ (r : Ratio). IsBelow a position r other) ratio mine))
    (λ (ne : o ≢ other). IsBelow-trans a position best.ratio other that o some (shares other best.ratio best.here) (shares o that e) mine (best.before_others o that e ne))
    (cases_eq o other)

-- a guest that lost pages, and is above its minimum still, offers the price of what it has then
offers_lowered : (tax : Tax) (row : Row) (k : ℕ) → row.min + k < row.target → revocable_ratio tax (lowered_row k row) ≡ Some (ratio_with tax row (row.target - k))
offers_lowered tax row k above =
    let still : nat_lt row.min (row.target - k) ≡ true = lt-ltb row.min (row.target - k) (omega arith) in
    rw still refl

pub least_lowered : (tax : Tax) (rows : List Row) (position : ℕ) (row : Row) (k : ℕ) → slice_get rows position ≡ Some row → row.min + k < row.target
    → ((o : ℕ) (that : Ratio) → offer_at (others (revocable_ratios tax rows) position) o ≡ Some that → IsBelow (ratio_with tax row (row.target - k)) position that o)
    → IsLeast (revocable_ratios tax (rows_with rows position row k)) position
least_lowered tax rows position row k at above beats =
    let offers = revocable_ratios tax rows in
    let offer = revocable_ratio tax (lowered_row k row) in
    let changed = map-set (revocable_ratio tax) rows position (lowered_row k row) in
    let wide = length-map rows (revocable_ratio tax) in
    let there = slice_get_within rows position row at in
    record {
      ratio = ratio_with tax row (row.target - k);
      here = ap (λ (xs : List (Option Ratio)). offer_at xs position) changed ∙ get_or-set_same offers position offer None (omega (arith, wide, there)) ∙ offers_lowered tax row k above;
      before_others = λ other that e ne. beats other that
          (get_or-set_other offers position other None None ne ∙ sym (get_or-set_other offers position other offer None ne) ∙ sym (ap (λ (xs : List (Option Ratio)). offer_at xs other) changed) ∙ e);
    }

fall_of : (tax : Tax) (rows : List Row) (position : ℕ) (row : Row) (count : ℕ) → slice_get rows position ≡ Some row → 1 ≤ count → row.min + count ≤ row.target
    → ((k : ℕ) → k < count → (o : ℕ) (that : Ratio) → offer_at (others (revocable_ratios tax rows) position) o ≡ Some that → IsBelow (ratio_with tax row (row.target - k)) position that o)
    → IsFall tax rows position count
fall_of tax rows position row count at some above beats = record {
  each_least = each_in_fall tax rows position row count at (λ k l. least_lowered tax rows position row k at (omega (arith, above, l)) (beats k l));
  can = subst (λ (o : Option Row). IsSomeAnd o (CanLose count)) (sym at) (record { some = some; above = above });
}

-- one revocation
pub fall_of_one : (tax : Tax) (rows : List Row) (position : ℕ) → IsLeast (revocable_ratios tax rows) position → IsFall tax rows position 1
fall_of_one tax rows position least = record {
  each_least = go;
  can = can_fact (slice_get rows position) (λ row above. record { some = omega arith; above = omega (arith, above) }) (revocable_row tax rows position least.ratio least.here);
}
  where
    go : EachMove (λ before move. IsLeast (revocable_ratios tax (rows_after rows before)) move) (position ∷ [])
    go zero l = least
    go (suc i) l = absurd (omega arith)

-- ---- the same of rows of the code

revocable_price : (tax : Tax) (rows : List PlanRow) (k : ℕ) (r : PlanRow) (ratio : Ratio) → k < length rows → r ≡ get_or rows k r → offer_at (revocable_ratios tax (rows_of rows)) k ≡ Some ratio → ratio_with tax (row_of r) r.target ≡ ratio
revocable_price tax rows k r ratio l e there = (cond_some (nat_lt r.min r.target) (ratio_with tax (row_of r) r.target) ratio (sym (offer_at-revocable tax rows k r l e) ∙ there)).1

-- the guest that is next is taken from before the best of the others
pub behind_rival : (tax : Tax) (rows : List PlanRow) (position other : ℕ) (r s : PlanRow) → position < length rows → other < length rows → r ≡ get_or rows position r → s ≡ get_or rows other s
    → IsLeast (revocable_ratios tax (rows_of rows)) position → IsLeast (others (revocable_ratios tax (rows_of rows)) position) other → IsBehind tax (row_of r) position r.target (ratio_with tax (row_of s) s.target) other
behind_rival tax rows position other r s l m e f first second =
    let offers = revocable_ratios tax (rows_of rows) in
    let there = other_stands offers position other second.ratio second.here in
    let mine = sym (revocable_price tax rows position r first.ratio l e first.here) in
    let other's = sym (revocable_price tax rows other s second.ratio m f there.1) in
    subst (λ (a : Ratio). IsBelow a position (ratio_with tax (row_of s) s.target) other) mine
    (subst (λ (b : Ratio). IsBelow first.ratio position b other) other's (first.before_others other second.ratio there.1 there.0))

-- the guest that is next is above its minimum
pub above_min : (tax : Tax) (rows : List PlanRow) (position : ℕ) (r : PlanRow) → position < length rows → r ≡ get_or rows position r → IsLeast (revocable_ratios tax (rows_of rows)) position → r.min < r.target
above_min tax rows position r l e least = subst (λ (o : Option Row). IsSomeAnd o (λ row. row.min < row.target)) (row_at rows position r l e) (revocable_row tax (rows_of rows) position least.ratio least.here)

-- no other is above its minimum
pub fall_alone : (tax : Tax) (rows : List PlanRow) (position count : ℕ) (r : PlanRow) → position < length rows → r ≡ get_or rows position r → 1 ≤ count → r.min + count ≤ r.target
    → All IsNone (others (revocable_ratios tax (rows_of rows)) position) → IsFall tax (rows_of rows) position count
fall_alone tax rows position count r l e some above none =
    let offers = others (revocable_ratios tax (rows_of rows)) position in
    fall_of tax (rows_of rows) position (row_of r) count (row_at rows position r l e) some above (λ k few o that there. absurd (none_at offers o that none there))

-- the guest is taken from before the best of the others with so few pages, the last of which the last of these revocations takes
pub fall_before : (tax : Tax) (rows : List PlanRow) (position other last count : ℕ) (r s : PlanRow) → position < length rows → other < length rows → r ≡ get_or rows position r → s ≡ get_or rows other s
    → IsLeast (others (revocable_ratios tax (rows_of rows)) position) other → IsBehind tax (row_of r) position last (ratio_with tax (row_of s) s.target) other
    → last ≤ r.target → r.min < last → count ≡ r.target - last + 1 → IsFall tax (rows_of rows) position count
fall_before tax rows position other last count r s l m e f second behind to from is =
    let prices = revocable_ratios tax (rows_of rows) in
    let offers = others prices position in
    let there = other_stands prices position other second.ratio second.here in
    let price = revocable_price tax rows other s second.ratio m f there.1 in
    let shares = others-have_shares prices position (revocable-have_shares tax (rows_of rows) (plan_rows-have_shares rows)) in
    fall_of tax (rows_of rows) position (row_of r) count (row_at rows position r l e) (omega (arith, is)) (omega (arith, is, from, to))
    (λ k few. below_each offers (ratio_with tax (row_of r) (r.target - k)) position other second (rw (adjusted_ratio-shares tax r.shares (r.target - k) r.active) r.some_shares) shares
    (subst (λ (b : Ratio). IsBelow (ratio_with tax (row_of r) (r.target - k)) position b other) price
    (behind_before tax (row_of r) position (r.target - k) last (ratio_with tax (row_of s) s.target) other (omega (arith, is, few, to)) behind)))

-- ---- what a run makes of the rows, and of their sums

pub fall_above : (rows : List PlanRow) (k count : ℕ) → IsSomeAnd (slice_get (rows_of rows) k) (CanLose count) → IfSome (slice_get rows k) (λ row. row.min + count ≤ row.target)
fall_above rows k count can = plan_row_fact (λ row. row.min + count ≤ row.target) rows k (can_fact (slice_get (rows_of rows) k) (λ row loses. loses.above) can)

pub fall_some : (rows : List Row) (k count : ℕ) → IsSomeAnd (slice_get rows k) (CanLose count) → 0 < count
fall_some rows k count can = let here = some_row_in (slice_get rows k) can in omega (arith, here.2.some)

pub rows-fall : (rows : List Row) (k count : ℕ) → IsSomeAnd (slice_get rows k) (CanLose count) → change_at (lowered_row count) rows k ≡ rows_after rows (replicate count k)
rows-fall rows k count can =
    let here = some_row_in (slice_get rows k) can in
    ap (λ (o : Option Row). option_map_or (λ row. slice_set rows k (lowered_row count row)) o rows) here.1 ∙ sym (rows_after-run rows k here.0 count here.1)

pub target-fall : (rows : List Row) (k count : ℕ) → IsSomeAnd (slice_get rows k) (CanLose count) → total_target (change_at (lowered_row count) rows k) + count ≡ total_target rows
target-fall rows k count can =
    let less = sum-change (λ (row : Row). row.target) (lowered_row count) count 0 (CanLose count) (λ row loses. omega (arith, loses.above)) rows k can in
    omega (arith, less)

-- its revocations follow those before
pub each-fall : (tax : Tax) (start now : List Row) (moves : List ℕ) (position count : ℕ) → now ≡ rows_after start moves → IsFall tax now position count
    → EachMove (λ before move. IsLeast (revocable_ratios tax (rows_after start before)) move) moves → EachMove (λ before move. IsLeast (revocable_ratios tax (rows_after start before)) move) (moves ++ replicate count position)
each-fall tax start now moves position count is fall each =
    each-append (λ before move. IsLeast (revocable_ratios tax (rows_after start before)) move) moves (replicate count position) each
    (λ i l.
    let before = take i (replicate count position) in
    let there = fold-append (change_at revoked_row) start moves before ∙ ap (λ (xs : List Row). rows_after xs before) (sym is) in
    subst (λ (xs : List Row). IsLeast (revocable_ratios tax xs) (slice_index (replicate count position) i)) (sym there) (fall.each_least i l))
