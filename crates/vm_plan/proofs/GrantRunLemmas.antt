-- Grants to one guest that follow each other.
use Rattle.std.proofs.Common.{◌≡◌, ◌≢◌, ℕ, zero, suc, ◌+◌, ◌-◌, ◌*◌, ◌<◌, ◌≤◌, ◌==◌, nat_lt, Bool, true, false, cond, List, [], ◌∷◌, ◌++◌, Option, Some, None, IsNone, IsSomeAnd, IfSome, All, length, max, min, replicate, take, slice_get, slice_set, slice_index, get_or, inl, inr, ⊎_elim, sym, refl, ap, ◌∙◌, subst, arith}
use Rattle.std.specs.Option.{option_map, option_map_or}
use Rattle.std.proofs.lemmas.Bool.{cases_lt, cases_eq, lt-ltb}
use Rattle.std.proofs.lemmas.Bool.Decides.{eqb_tells}
use Rattle.std.proofs.lemmas.Option.{none-some, same_Some, cond_some, slice_get_within, slice_get-get_or, slice_get-map, get_or_from_slice_get}
use Rattle.std.proofs.lemmas.Grind.{fold-append}
use Rattle.std.proofs.lemmas.List.{get_or-set_other, get_or-set_same, get_or-replicate, length-map, length-replicate, length-set, map-set, replicate_more, set-get_or, set-set, take-replicate}
use Rattle.std.proofs.Math.Nat.{mul-le-mul_left, mul-le-mul_right}
use Rattle.vm_tax.specs.Ratio.{Ratio, Tax, IsAbove, adjusted_ratio, weight_of}
use Rattle.vm_tax.specs.Offers.{offer_at, AllHaveShares, IsGreatest}
use Rattle.vm_tax.proofs.Fractions.{IsAbove-trans, adjusted_ratio-shares}
use Rattle.vm_tax.proofs.OfferLemmas.{none_at}
use Rattle.vm_plan.specs.declared.row.PlanRow.{PlanRow}
use Rattle.vm_plan.specs.PlanRow.{row_of, rows_of, pool_of}
use Rattle.vm_plan.specs.declared.state.State.{State}
use Rattle.vm_plan.specs.declared.state.State.TheVariants.{High}
use Rattle.vm_plan.specs.declared.thresholds.Thresholds.{Thresholds}
use Rattle.vm_plan.specs.Row.{Row, ratio_with, wants_to_grow, wanting_ratio, wanting_ratios, others, change_at}
use Rattle.vm_plan.specs.Moves.{EachMove}
use Rattle.vm_plan.specs.Grants.{Pool, total_demand, granted, granted_row, frames_for, pool_after, IsNextGrant}
use Rattle.vm_plan.specs.Runs.{affordable, frames_for_all, grown_row, CanGrowBy, IsAhead, IsRun}
use Rattle.vm_plan.proofs.GrantLemmas.{plan_row_fact, pool_after-push, row_at}
use Rattle.vm_plan.proofs.MoveLemmas.{each-append}
use Rattle.vm_plan.proofs.SumLemmas.{sum-change, total_target}
use Rattle.vm_plan.proofs.Places.{may_free, wanting_row}
use Rattle.vm_plan.proofs.RowLemmas.{wanting-have_shares, others-have_shares, other_stands, offer_at-wanting, plan_rows-have_shares}

-- ---- one grant after another

grown_row-none : (row : Row) → row.target ≤ row.held → grown_row 0 row ≡ row
grown_row-none row held =
    let target : row.target + 0 ≡ row.target = omega arith in
    let same : max row.held (row.target + 0) ≡ row.held = omega arith in
    let demand : row.demand - 0 ≡ row.demand = omega arith in
    λ i. record row { target = target i; held = same i; demand = demand i }

held_more : (held target : ℕ) (test : Bool) → (max held target == target) ≡ test → target ≤ max held target → max held target + cond test 1 0 ≡ max held (target + 1)
held_more held target true is least = ⊎_elim (λ same. let e = same.1 in omega (arith, e)) (λ other. absurd (other_test (sym other.0 ∙ is))) (eqb_tells (max held target) target)
  where
    other_test : false ≡ true → ⊥
    other_test e = let no = e in cc
held_more held target false is least = ⊎_elim (λ same. absurd (other_test (sym is ∙ same.0))) (λ other. let e = other.1 in omega (arith, e)) (eqb_tells (max held target) target)
  where
    other_test : false ≡ true → ⊥
    other_test e = let no = e in cc

grown_row-more : (k : ℕ) (row : Row) → granted_row (grown_row k row) ≡ grown_row (k + 1) row
grown_row-more k row =
    let target : (row.target + k) + 1 ≡ row.target + (k + 1) = omega arith in
    let held = held_more row.held (row.target + k) (max row.held (row.target + k) == (row.target + k)) refl (omega arith) ∙ ap (λ (n : ℕ). max row.held n) target in
    let demand : (row.demand - k) - 1 ≡ row.demand - (k + 1) = omega arith in
    λ i. record row { target = target i; held = held i; demand = demand i }

cost_more : (held target : ℕ) (test : Bool) → (max held target == target) ≡ test → (target - held) + cond test 1 0 ≡ (target + 1) - held
cost_more held target true is = ⊎_elim (λ same. let e = same.1 in omega (arith, e)) (λ other. absurd (other_test (sym other.0 ∙ is))) (eqb_tells (max held target) target)
  where
    other_test : false ≡ true → ⊥
    other_test e = let no = e in cc
cost_more held target false is = ⊎_elim (λ same. absurd (other_test (sym is ∙ same.0))) (λ other. let e = other.1 in omega (arith, e)) (eqb_tells (max held target) target)
  where
    other_test : false ≡ true → ⊥
    other_test e = let no = e in cc

frames-more : (k : ℕ) (row : Row) → frames_for_all k row + frames_for (grown_row k row) ≡ frames_for_all (k + 1) row
frames-more k row =
    let more = cost_more row.held (row.target + k) (max row.held (row.target + k) == (row.target + k)) refl in
    more ∙ ap (λ (n : ℕ). n - row.held) (omega arith)

-- the rows and the free frames after so many grants to the guest of a row
abbrev pub pool_with : Pool → ℕ → Row → ℕ → Pool
pool_with pool position row k = record { free = pool.free - frames_for_all k row; rows = slice_set pool.rows position (grown_row k row) }

same_pool : (a b : Pool) → a.free ≡ b.free → a.rows ≡ b.rows → a ≡ b
same_pool a b e f = λ i. record { free = e i; rows = f i }

pool_with-none : (pool : Pool) (position : ℕ) (guest : Row) → slice_get pool.rows position ≡ Some guest → guest.target ≤ guest.held → pool ≡ pool_with pool position guest 0
pool_with-none pool position guest at held =
    let free : pool.free ≡ pool.free - frames_for_all 0 guest = omega arith in
    let here = get_or_from_slice_get pool.rows position guest guest at in
    let rows = ap (slice_set pool.rows position) (grown_row-none guest held ∙ sym here) ∙ set-get_or pool.rows position guest in
    same_pool pool (pool_with pool position guest 0) free (sym rows)

pub row_in : (rows : List Row) (position : ℕ) (old new : Row) → slice_get rows position ≡ Some old → slice_get (slice_set rows position new) position ≡ Some new
row_in rows position old new at =
    let within = slice_get_within rows position old at in
    let wide = length-set rows position new in
    slice_get-get_or (slice_set rows position new) position new (omega (arith, within, wide)) ∙ ap (λ (x : Row). Some x) (get_or-set_same rows position new new within)

-- taken one after the other, or both at once
taken_both : (n a b c : ℕ) → a + b ≡ c → (n - a) - b ≡ n - c
taken_both n a b c e = omega (arith, e)

pool_with-more : (pool : Pool) (position : ℕ) (row : Row) (k : ℕ) → slice_get pool.rows position ≡ Some row → granted (pool_with pool position row k) position ≡ pool_with pool position row (k + 1)
pool_with-more pool position row k at =
    let new = grown_row k row in
    let rows = slice_set pool.rows position new in
    let there = row_in pool.rows position row new at in
    let cost : option_map_or frames_for (slice_get rows position) 0 ≡ frames_for new = ap (λ (o : Option Row). option_map_or frames_for o 0) there in
    let frames = frames-more k row in
    let free : (pool.free - frames_for_all k row) - option_map_or frames_for (slice_get rows position) 0 ≡ pool.free - frames_for_all (k + 1) row = ap (λ (n : ℕ). (pool.free - frames_for_all k row) - n) cost ∙ taken_both pool.free (frames_for_all k row) (frames_for new) (frames_for_all (k + 1) row) frames in
    let changed : change_at granted_row rows position ≡ slice_set rows position (granted_row new) = ap (λ (o : Option Row). option_map_or (λ row. slice_set rows position (granted_row row)) o rows) there in
    same_pool (granted (pool_with pool position row k) position) (pool_with pool position row (k + 1)) free
    (changed ∙ set-set pool.rows position new (granted_row new) ∙ ap (slice_set pool.rows position) (grown_row-more k row))

pub pool_after-run : (pool : Pool) (position : ℕ) (row : Row) (k : ℕ) → slice_get pool.rows position ≡ Some row → row.target ≤ row.held → pool_after pool (replicate k position) ≡ pool_with pool position row k
pool_after-run pool position row zero at held = pool_with-none pool position row at held
pool_after-run pool position row (suc k) at held =
    let more = replicate_more k position in
    let next : k + 1 ≡ suc k = omega arith in
    let before = pool_after-run pool position row k at held in
    ap (λ (n : ℕ). pool_after pool (replicate n position)) (sym next)
    ∙ ap (pool_after pool) (sym more)
    ∙ pool_after-push pool (replicate k position) position
    ∙ ap (λ (p : Pool). granted p position) before
    ∙ pool_with-more pool position row k at
    ∙ ap (pool_with pool position row) next

-- each is the next where it is so from the numbers
pub each_in_run : (state : State) (t : Thresholds) (tax : Tax) (pool : Pool) (position : ℕ) (row : Row) (count : ℕ) → slice_get pool.rows position ≡ Some row → row.target ≤ row.held
    → ((k : ℕ) → k < count → IsNextGrant state t tax (pool_with pool position row k) position) → EachMove (λ before move. IsNextGrant state t tax (pool_after pool before) move) (replicate count position)
each_in_run state t tax pool position row count at held next i l =
    let wide = length-replicate count position in
    let few : i < count = omega (arith, l, wide) in
    let before : take i (replicate count position) ≡ replicate i position = take-replicate i count position (omega (arith, few)) in
    let there : slice_index (replicate count position) i ≡ position = get_or-replicate count i position 0 few in
    let pool_then = ap (pool_after pool) before ∙ pool_after-run pool position row i at held in
    subst (λ (p : Pool). IsNextGrant state t tax p (slice_index (replicate count position) i)) (sym pool_then) (subst (λ (n : ℕ). IsNextGrant state t tax (pool_with pool position row i) n) (sym there) (next i few))

-- ---- the guest comes first as long as it comes before the best of the others

-- with fewer pages its price is no less
pub ahead_before : (tax : Tax) (row : Row) (position pages last : ℕ) (rival : Ratio) (other : ℕ) → pages ≤ last → IsAhead tax row position last rival other → IsAhead tax row position pages rival other
unfolding adjusted_ratio
ahead_before tax row position pages last rival other few ahead =
    let weight = weight_of tax row.active in
    let less : pages * weight ≤ last * weight = mul-le-mul_right weight few in
    let price : rival.shares * (pages * weight) ≤ rival.shares * (last * weight) = mul-le-mul_left rival.shares less in
    go price ahead
  where
    go : rival.shares * (pages * weight_of tax row.active) ≤ rival.shares * (last * weight_of tax row.active) → IsAhead tax row position last rival other → IsAhead tax row position pages rival other
    go price (inl l) = let strict : rival.shares * (pages * weight_of tax row.active) < row.shares * rival.weighted_pages = omega (arith, price, l) in inl strict
    go price (inr e) =
        ⊎_elim
        (λ (strict : rival.shares * (pages * weight_of tax row.active) < row.shares * rival.weighted_pages). inl strict)
        (λ (most : row.shares * rival.weighted_pages ≤ rival.shares * (pages * weight_of tax row.active)).
        let same : row.shares * rival.weighted_pages ≡ rival.shares * (pages * weight_of tax row.active) = let is = e.0 in omega (arith, is, price, most) in
        inr (same, e.1))
        (cases_lt (rival.shares * (pages * weight_of tax row.active)) (row.shares * rival.weighted_pages))

-- what comes before the best of the others comes before each of them
pub beats_each : (offers : List (Option Ratio)) (a : Ratio) (position other : ℕ) → (best : IsGreatest offers other) → 0 < a.shares → AllHaveShares offers → IsAbove a position best.ratio other
    → (o : ℕ) (that : Ratio) → offer_at offers o ≡ Some that → IsAbove a position that o
beats_each offers a position other best some shares mine o that e =
    ⊎_elim
    (λ (same : o ≡ other).
    let there = subst (λ (n : ℕ). offer_at offers n ≡ Some that) same e in
    let ratio = same_Some best.ratio that (sym best.here ∙ there) in
    subst (λ (n : ℕ). IsAbove a position that n) (sym same) (subst (λ (r : Ratio). IsAbove a position r other) ratio mine))
    (λ (ne : o ≢ other). IsAbove-trans a position best.ratio other that o some (shares other best.ratio best.here) (shares o that e) mine (best.before_others o that e ne))
    (cases_eq o other)

-- a guest that grew wants more, at the price of what it has then
wants_grown : (tax : Tax) (row : Row) (k : ℕ) → k < row.demand → row.target + k < row.cap → wanting_ratio tax (grown_row k row) ≡ Some (ratio_with tax row (row.target + k))
wants_grown tax row k demand room =
    let wants : nat_lt 0 (row.demand - k) ≡ true = lt-ltb 0 (row.demand - k) (omega arith) in
    let below : nat_lt (row.target + k) row.cap ≡ true = lt-ltb (row.target + k) row.cap room in
    rw (wants, below) refl

-- the guest is first after so many grants, where it comes before each of the others
first_grown : (tax : Tax) (rows : List Row) (position : ℕ) (row : Row) (k : ℕ) → slice_get rows position ≡ Some row → k < row.demand → row.target + k < row.cap
    → ((o : ℕ) (that : Ratio) → offer_at (others (wanting_ratios tax rows) position) o ≡ Some that → IsAbove (ratio_with tax row (row.target + k)) position that o)
    → IsGreatest (wanting_ratios tax (slice_set rows position (grown_row k row))) position
first_grown tax rows position row k at demand room beats =
    let offers = wanting_ratios tax rows in
    let offer = wanting_ratio tax (grown_row k row) in
    let changed = map-set (wanting_ratio tax) rows position (grown_row k row) in
    let wide = length-map rows (wanting_ratio tax) in
    let there = slice_get_within rows position row at in
    record {
      ratio = ratio_with tax row (row.target + k);
      here = ap (λ (xs : List (Option Ratio)). offer_at xs position) changed ∙ get_or-set_same offers position offer None (omega (arith, wide, there)) ∙ wants_grown tax row k demand room;
      before_others = λ other that e ne. beats other that
          (get_or-set_other offers position other None None ne ∙ sym (get_or-set_other offers position other offer None ne) ∙ sym (ap (λ (xs : List (Option Ratio)). offer_at xs other) changed) ∙ e);
    }

-- ---- what is affordable, in plain numbers

each_at_most : (n a b c : ℕ) → n ≤ min (min a b) c → (n ≤ a) × (n ≤ b) × (n ≤ c)
each_at_most n a b c l = (omega (arith, l), omega (arith, l), omega (arith, l))

at_least_one : (a b c : ℕ) → 1 ≤ a → 1 ≤ b → 1 ≤ c → 1 ≤ min (min a b) c
at_least_one a b c l m n = omega (arith, l, m, n)

some_left : (a b : ℕ) → a < b → 1 ≤ b - a
some_left a b l = omega (arith, l)

some_more : (n a b : ℕ) → a < b → 1 ≤ n + (b - a)
some_more n a b l = omega (arith, l)

at_most_itself : (n : ℕ) → n ≤ n
at_most_itself n = omega arith

below_all : (k count most : ℕ) → k < count → count ≤ most → k < most
below_all k count most l m = omega (arith, l, m)

room_for : (k count cap target : ℕ) → k < count → count ≤ cap - target → target + k < cap
room_for k count cap target l m = omega (arith, l, m)

room_for_all : (count cap target : ℕ) → 1 ≤ count → count ≤ cap - target → target + count ≤ cap
room_for_all count cap target some m = omega (arith, some, m)

still_free : (k count held target free soft : ℕ) → k < count → count ≤ (held - target) + (free - soft) → soft < free → target ≤ held → soft < free - ((target + k) - held)
still_free k count held target free soft l m more least = omega (arith, l, m, more, least)

counts_to : (target last count most : ℕ) → target ≤ last → last + 1 ≤ target + most → count ≡ last - target + 1 → (1 ≤ count) × (count ≤ most)
counts_to target last count most from to is = (omega (arith, is), omega (arith, from, to, is))

below_last : (k target last count : ℕ) → target ≤ last → count ≡ last - target + 1 → k < count → target + k ≤ last
below_last k target last count from is few = omega (arith, from, is, few)

enough_free : (count held target free soft : ℕ) → count ≤ (held - target) + (free - soft) → target ≤ held → (target + count) - held ≤ free
enough_free count held target free soft m least = omega (arith, m, least)

-- a run in High: as many as can be had, as long as the guest comes before each of the others
run_in_high : (t : Thresholds) (tax : Tax) (pool : Pool) (position : ℕ) (row : Row) (count : ℕ) → slice_get pool.rows position ≡ Some row → row.target ≤ row.held → t.soft < pool.free
    → 1 ≤ count → count ≤ affordable t pool.free row
    → ((k : ℕ) → k < count → (o : ℕ) (that : Ratio) → offer_at (others (wanting_ratios tax pool.rows) position) o ≡ Some that → IsAbove (ratio_with tax row (row.target + k)) position that o)
    → IsRun High t tax pool position count
run_in_high t tax pool position row count at held free some few beats =
    let most = each_at_most count row.demand (row.cap - row.target) ((row.held - row.target) + (pool.free - t.soft)) few in
    record {
      each_next = each_in_run High t tax pool position row count at held (λ k l. record {
        greatest = first_grown tax pool.rows position row k at (below_all k count row.demand l most.0) (room_for k count row.cap row.target l most.1) (beats k l);
        may = still_free k count row.held row.target pool.free t.soft l most.2 free held;
      });
      can = subst (λ (o : Option Row). IsSomeAnd o (CanGrowBy count pool.free)) (sym at) (record {
        some = some;
        demand = most.0;
        room = room_for_all count row.cap row.target some most.1;
        held = held;
        enough = enough_free count row.held row.target pool.free t.soft most.2 held;
      });
    }

-- each guest holds its target
pub held_in : (rows : List PlanRow) (k : ℕ) (r : PlanRow) → k < length rows → r ≡ get_or rows k r → All (λ row. row.target ≤ row.held) rows → r.target ≤ r.held
held_in rows k r l e held = subst (λ (x : PlanRow). x.target ≤ x.held) (sym e) (held k r l)

held_at : (rows : List PlanRow) (k : ℕ) → All (λ row. row.target ≤ row.held) rows → IfSome (slice_get (rows_of rows) k) (λ row. row.target ≤ row.held)
held_at [] k held = tt
held_at (r ∷ rows) zero held = held 0 r (omega arith)
held_at (r ∷ rows) (suc k) held = held_at rows k (λ i d l. held (suc i) d (omega arith))

-- one grant
pub run_of_one : (state : State) (t : Thresholds) (tax : Tax) (free : ℕ) (rows : List PlanRow) (position : ℕ) → All (λ row. row.target ≤ row.held) rows → IsNextGrant state t tax (pool_of free rows) position → IsRun state t tax (pool_of free rows) position 1
run_of_one state t tax free rows position held next =
    let wants = wanting_row tax (rows_of rows) position next.greatest.ratio next.greatest.here in
    let some = may_free state t tax (pool_of free rows) position next.may in
    record {
      each_next = λ i l. go i l;
      can = one (slice_get (rows_of rows) position) wants.0 wants.1 (held_at rows position held) some;
    }
  where
    go : EachMove (λ before move. IsNextGrant state t tax (pool_after (pool_of free rows) before) move) (position ∷ [])
    go zero l = next
    go (suc i) l = absurd (omega arith)

    one : (o : Option Row) → IsSomeAnd o (λ row. 0 < row.demand) → IsSomeAnd o (λ row. row.target < row.cap) → IfSome o (λ row. row.target ≤ row.held) → 0 < free → IsSomeAnd o (CanGrowBy 1 free)
    one None demand room held some = absurd demand
    one (Some row) demand room held some = record { some = omega arith; demand = omega (arith, demand); room = omega (arith, room); held = held; enough = omega (arith, held, some) }

-- ---- the same of rows of the code

wanting_price : (tax : Tax) (rows : List PlanRow) (k : ℕ) (r : PlanRow) (ratio : Ratio) → k < length rows → r ≡ get_or rows k r → offer_at (wanting_ratios tax (rows_of rows)) k ≡ Some ratio → ratio_with tax (row_of r) r.target ≡ ratio
wanting_price tax rows k r ratio l e there = (cond_some (wants_to_grow (row_of r)) (ratio_with tax (row_of r) r.target) ratio (sym (offer_at-wanting tax rows k r l e) ∙ there)).1

-- the guest that is next comes before the best of the others
pub ahead_of_rival : (tax : Tax) (rows : List PlanRow) (position other : ℕ) (r s : PlanRow) → position < length rows → other < length rows → r ≡ get_or rows position r → s ≡ get_or rows other s
    → IsGreatest (wanting_ratios tax (rows_of rows)) position → IsGreatest (others (wanting_ratios tax (rows_of rows)) position) other → IsAhead tax (row_of r) position r.target (ratio_with tax (row_of s) s.target) other
ahead_of_rival tax rows position other r s l m e f first second =
    let offers = wanting_ratios tax (rows_of rows) in
    let there = other_stands offers position other second.ratio second.here in
    let mine = sym (wanting_price tax rows position r first.ratio l e first.here) in
    let other's = sym (wanting_price tax rows other s second.ratio m f there.1) in
    subst (λ (a : Ratio). IsAbove a position (ratio_with tax (row_of s) s.target) other) mine
    (subst (λ (b : Ratio). IsAbove first.ratio position b other) other's (first.before_others other second.ratio there.1 there.0))

-- how many can be had at least
pub some_affordable : (t : Thresholds) (tax : Tax) (free : ℕ) (rows : List PlanRow) (position : ℕ) (r : PlanRow) → position < length rows → r ≡ get_or rows position r
    → IsNextGrant High t tax (pool_of free rows) position → 1 ≤ affordable t free (row_of r)
some_affordable t tax free rows position r l e next =
    let at = row_at rows position r l e in
    let wants = wanting_row tax (rows_of rows) position next.greatest.ratio next.greatest.here in
    let demand = subst (λ (o : Option Row). IsSomeAnd o (λ row. 0 < row.demand)) at wants.0 in
    let room = subst (λ (o : Option Row). IsSomeAnd o (λ row. row.target < row.cap)) at wants.1 in
    at_least_one r.demand (r.cap - r.target) ((r.held - r.target) + (free - t.soft)) demand (some_left r.target r.cap room) (some_more (r.held - r.target) t.soft free next.may)

-- nobody else wants to grow
pub run_alone : (t : Thresholds) (tax : Tax) (free : ℕ) (rows : List PlanRow) (position : ℕ) (r : PlanRow) → position < length rows → r ≡ get_or rows position r → All (λ row. row.target ≤ row.held) rows
    → IsNextGrant High t tax (pool_of free rows) position → All IsNone (others (wanting_ratios tax (rows_of rows)) position) → IsRun High t tax (pool_of free rows) position (affordable t free (row_of r))
run_alone t tax free rows position r l e held next none =
    let offers = others (wanting_ratios tax (rows_of rows)) position in
    run_in_high t tax (pool_of free rows) position (row_of r) (affordable t free (row_of r)) (row_at rows position r l e) (held_in rows position r l e held) next.may
    (some_affordable t tax free rows position r l e next) (at_most_itself (affordable t free (row_of r)))
    (λ k few o that there. absurd (none_at offers o that none there))

-- the guest comes before the best of the others with so many pages, the last of which it gets by the last of these grants
pub run_before : (t : Thresholds) (tax : Tax) (free : ℕ) (rows : List PlanRow) (position other last count : ℕ) (r s : PlanRow) → position < length rows → other < length rows → r ≡ get_or rows position r → s ≡ get_or rows other s
    → All (λ row. row.target ≤ row.held) rows → IsNextGrant High t tax (pool_of free rows) position → IsGreatest (others (wanting_ratios tax (rows_of rows)) position) other
    → IsAhead tax (row_of r) position last (ratio_with tax (row_of s) s.target) other → r.target ≤ last → last + 1 ≤ r.target + affordable t free (row_of r) → count ≡ last - r.target + 1
    → IsRun High t tax (pool_of free rows) position count
run_before t tax free rows position other last count r s l m e f held next second ahead from to is =
    let wants = wanting_ratios tax (rows_of rows) in
    let offers = others wants position in
    let there = other_stands wants position other second.ratio second.here in
    let price = wanting_price tax rows other s second.ratio m f there.1 in
    let shares = others-have_shares wants position (wanting-have_shares tax (rows_of rows) (plan_rows-have_shares rows)) in
    let counts = counts_to r.target last count (affordable t free (row_of r)) from to is in
    run_in_high t tax (pool_of free rows) position (row_of r) count (row_at rows position r l e) (held_in rows position r l e held) next.may
    counts.0 counts.1
    (λ k few. beats_each offers (ratio_with tax (row_of r) (r.target + k)) position other second (rw (adjusted_ratio-shares tax r.shares (r.target + k) r.active) r.some_shares) shares
    (subst (λ (b : Ratio). IsAbove (ratio_with tax (row_of r) (r.target + k)) position b other) price
    (ahead_before tax (row_of r) position (r.target + k) last (ratio_with tax (row_of s) s.target) other (below_last k r.target last count from is few) ahead)))

-- ---- what a run makes of the rows, and of their sums

pub some_row_in : {P : Row → Type 0} (o : Option Row) → IsSomeAnd o P → (row : Row) × (o ≡ Some row) × P row
some_row_in None h = absurd h
some_row_in (Some row) h = (row, refl, h)

pub can_fact : {P Q : Row → Type 0} (o : Option Row) → ((row : Row) → P row → Q row) → IsSomeAnd o P → IsSomeAnd o Q
can_fact None weaken h = absurd h
can_fact (Some row) weaken h = weaken row h

pub run_demand : (rows : List PlanRow) (k count free : ℕ) → IsSomeAnd (slice_get (rows_of rows) k) (CanGrowBy count free) → IfSome (slice_get rows k) (λ row. count ≤ row.demand)
run_demand rows k count free can = plan_row_fact (λ row. count ≤ row.demand) rows k (can_fact (slice_get (rows_of rows) k) (λ row grows. grows.demand) can)

pub run_room : (rows : List PlanRow) (k count free : ℕ) → IsSomeAnd (slice_get (rows_of rows) k) (CanGrowBy count free) → IfSome (slice_get rows k) (λ row. row.target + count ≤ row.cap)
run_room rows k count free can = plan_row_fact (λ row. row.target + count ≤ row.cap) rows k (can_fact (slice_get (rows_of rows) k) (λ row grows. grows.room) can)

run_frames : (rows : List PlanRow) (k frames count : ℕ) (row : Row) → slice_get (rows_of rows) k ≡ Some row → IfSome (slice_get rows k) (λ r. frames ≡ frames_for_all count (row_of r)) → frames ≡ frames_for_all count row
run_frames rows k frames count row at is = go (slice_get rows k) (sym (slice_get-map row_of rows k) ∙ at) is
  where
    go : (o : Option PlanRow) → option_map row_of o ≡ Some row → IfSome o (λ r. frames ≡ frames_for_all count (row_of r)) → frames ≡ frames_for_all count row
    go None none is = absurd (none-some row none)
    go (Some r) some is = is ∙ ap (frames_for_all count) (same_Some (row_of r) row some)

-- it takes no more frames than are free
pub run_cost : (rows : List PlanRow) (k frames count free : ℕ) → IsSomeAnd (slice_get (rows_of rows) k) (CanGrowBy count free) → IfSome (slice_get rows k) (λ r. frames ≡ frames_for_all count (row_of r)) → frames ≤ free
run_cost rows k frames count free can is =
    let here = some_row_in (slice_get (rows_of rows) k) can in
    let cost = run_frames rows k frames count here.0 here.1 is in
    omega (arith, cost, here.2.enough)

pub run_some : (rows : List Row) (k count free : ℕ) → IsSomeAnd (slice_get rows k) (CanGrowBy count free) → 0 < count
run_some rows k count free can = let here = some_row_in (slice_get rows k) can in omega (arith, here.2.some)

-- the rows and the free frames after it
pub pool-run : (left frames count : ℕ) (rows new : List PlanRow) (k : ℕ) → IsSomeAnd (slice_get (rows_of rows) k) (CanGrowBy count left) → IfSome (slice_get rows k) (λ r. frames ≡ frames_for_all count (row_of r))
    → rows_of new ≡ change_at (grown_row count) (rows_of rows) k → pool_of (left - frames) new ≡ pool_after (pool_of left rows) (replicate count k)
pool-run left frames count rows new k can cost given =
    let here = some_row_in (slice_get (rows_of rows) k) can in
    let free = ap (λ (n : ℕ). left - n) (run_frames rows k frames count here.0 here.1 cost) in
    let changed : change_at (grown_row count) (rows_of rows) k ≡ slice_set (rows_of rows) k (grown_row count here.0) = ap (λ (o : Option Row). option_map_or (λ row. slice_set (rows_of rows) k (grown_row count row)) o (rows_of rows)) here.1 in
    same_pool (pool_of (left - frames) new) (pool_with (pool_of left rows) k here.0 count) free (given ∙ changed)
    ∙ sym (pool_after-run (pool_of left rows) k here.0 count here.1 here.2.held)

-- it serves as much demand, and raises targets by as many pages
pub demand-run : (rows : List Row) (k count free : ℕ) → IsSomeAnd (slice_get rows k) (CanGrowBy count free) → total_demand (change_at (grown_row count) rows k) + count ≡ total_demand rows
demand-run rows k count free can =
    let less = sum-change (λ (row : Row). row.demand) (grown_row count) count 0 (CanGrowBy count free) (λ row grows. omega (arith, grows.demand)) rows k can in
    omega (arith, less)

pub target-run : (rows : List Row) (k count free : ℕ) → IsSomeAnd (slice_get rows k) (CanGrowBy count free) → total_target (change_at (grown_row count) rows k) ≡ total_target rows + count
target-run rows k count free can =
    let more = sum-change (λ (row : Row). row.target) (grown_row count) 0 count (CanGrowBy count free) (λ row grows. omega arith) rows k can in
    omega (arith, more)

-- its grants follow those before
pub each-run : (state : State) (t : Thresholds) (tax : Tax) (start now : Pool) (moves : List ℕ) (position count : ℕ) → now ≡ pool_after start moves → IsRun state t tax now position count
    → EachMove (λ before move. IsNextGrant state t tax (pool_after start before) move) moves → EachMove (λ before move. IsNextGrant state t tax (pool_after start before) move) (moves ++ replicate count position)
each-run state t tax start now moves position count is run each =
    each-append (λ before move. IsNextGrant state t tax (pool_after start before) move) moves (replicate count position) each
    (λ i l.
    let before = take i (replicate count position) in
    let there = fold-append granted start moves before ∙ ap (λ (p : Pool). pool_after p before) (sym is) in
    subst (λ (p : Pool). IsNextGrant state t tax p (slice_index (replicate count position) i)) (sym there) (run.each_next i l))
