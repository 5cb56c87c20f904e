-- Pages that go from one guest to another, one after the other.
use Rattle.std.proofs.Common.{◌≡◌, ◌≢◌, ℕ, zero, suc, ◌+◌, ◌-◌, ◌*◌, ◌<◌, ◌≤◌, nat_lt, true, List, [], ◌∷◌, ◌++◌, Option, Some, None, IsNone, IfNone, IfSome, IsSomeAnd, All, length, replicate, take, slice_get, slice_set, slice_index, get_or, inl, inr, ⊎_elim, sym, refl, ap, ◌∙◌, subst, arith}
use Rattle.std.specs.Option.{option_map_or}
use Rattle.std.proofs.lemmas.Bool.{cases_lt, cases_eq, lt-ltb}
use Rattle.std.proofs.lemmas.Grind.{fold-append}
use Rattle.std.proofs.lemmas.List.{get_or-set_other, get_or-replicate, length-replicate, map-set, replicate_more, set-get_or, set-set, set_comm, take-replicate}
use Rattle.std.proofs.lemmas.Option.{same_Some, slice_get-get_or, slice_get_within, get_or_from_slice_get}
use Rattle.vm_tax.specs.Ratio.{Ratio, Tax, IsAbove, IsBelow, IsLess}
use Rattle.vm_tax.specs.Offers.{offer_at, IsLeast, IsGreatest}
use Rattle.vm_tax.proofs.OfferLemmas.{none_at}
use Rattle.vm_plan.specs.declared.row.PlanRow.{PlanRow}
use Rattle.vm_plan.specs.PlanRow.{rows_of}
use Rattle.vm_plan.specs.Row.{Row, HaveShares, ratio_with, revocable_ratios, wanting_ratio, others, change_at}
use Rattle.vm_plan.specs.Moves.{EachMove}
use Rattle.vm_plan.specs.Revocation.{revoked_row}
use Rattle.vm_plan.specs.Rebalancing.{taking_ratio, taking_ratios, taken_row, transferred, given_by, rows_given, ComesBack, IsTransfer, IsNextGiver}
use Rattle.vm_plan.specs.Runs.{lowered_row, raised_row, rows_moved, Leads, IsFlow, GivesFirst, TakesFirst, IsKept, GoesOn}
use Rattle.vm_plan.specs.Sides.{IsAtMost, AreOwn, AreGrown, Pays}
use Rattle.vm_plan.proofs.BackLemmas.{back_demand, leads_from_back}
use Rattle.vm_plan.proofs.ChangeLemmas.{set_other}
use Rattle.vm_plan.proofs.GrantLemmas.{plan_row_fact}
use Rattle.vm_plan.proofs.GrantRunLemmas.{ahead_before, beats_each, row_in, some_row_in}
use Rattle.vm_plan.proofs.ListLemmas.{change-have_shares}
use Rattle.vm_plan.proofs.MoveLemmas.{each-append}
use Rattle.vm_plan.proofs.RevocationRunLemmas.{behind_before, below_each, least_lowered, lowered_row-more, lowered_row-none}
use Rattle.vm_plan.proofs.RowLemmas.{other_stands, others-have_shares, revocable-have_shares, taking-have_shares}
use Rattle.vm_plan.proofs.SideLemmas.{can_give, grown_after, grown_taker, less_then_most, most_then_less, own_after, own_giver, price_has_shares, raised_row-more, revocable_at, shares_at, takes_price, taking_at, transfer_from_sides, would_take}
use Rattle.vm_plan.proofs.TransferLemmas.{at_most_chain, given_is, parties, price_falls, two_parties}

-- ---- the rows after so many pages

raised_row-none : (row : Row) → raised_row 0 row ≡ row
raised_row-none row =
    let target : row.target + 0 ≡ row.target = omega arith in
    let demand : row.demand - 0 ≡ row.demand = omega arith in
    λ i. record row { target = target i; demand = demand i }

change_none : (change : Row → Row) → ((row : Row) → change row ≡ row) → (rows : List Row) (k : ℕ) → change_at change rows k ≡ rows
change_none change same rows k = go (slice_get rows k) refl
  where
    go : (o : Option Row) → slice_get rows k ≡ o → option_map_or (λ row. slice_set rows k (change row)) o rows ≡ rows
    go None e = refl
    go (Some row) e = ap (slice_set rows k) (same row ∙ sym (get_or_from_slice_get rows k row row e)) ∙ set-get_or rows k row

-- a row that changes is put in its place
change_put : (change : Row → Row) (rows : List Row) (k : ℕ) (row : Row) → slice_get rows k ≡ Some row → change_at change rows k ≡ slice_set rows k (change row)
change_put change rows k row at = ap (λ (o : Option Row). option_map_or (λ row. slice_set rows k (change row)) o rows) at

change_twice : (first second both : Row → Row) (rows : List Row) (k : ℕ) (row : Row) → slice_get rows k ≡ Some row → second (first row) ≡ both row → change_at second (change_at first rows k) k ≡ change_at both rows k
change_twice first second both rows k row at e =
    ap (λ (xs : List Row). change_at second xs k) (change_put first rows k row at)
    ∙ change_put second (slice_set rows k (first row)) k (first row) (row_in rows k row (first row) at)
    ∙ set-set rows k (first row) (second (first row))
    ∙ ap (slice_set rows k) e
    ∙ sym (change_put both rows k row at)

-- the rows with these two
abbrev two_rows : List Row → (giver taker : ℕ) → (from to : Row) → List Row
two_rows rows giver taker from to = slice_set (slice_set rows giver from) taker to

moved_is : (rows : List Row) (giver taker k : ℕ) (from to : Row) → giver ≢ taker → slice_get rows giver ≡ Some from → slice_get rows taker ≡ Some to
    → rows_moved rows giver taker k ≡ two_rows rows giver taker (lowered_row k from) (raised_row k to)
moved_is rows giver taker k from to ne at at' =
    let given = slice_set rows giver (lowered_row k from) in
    let there : slice_get given taker ≡ Some to = set_other rows giver taker (lowered_row k from) (λ e. ne (sym e)) ∙ at' in
    ap (λ (xs : List Row). change_at (raised_row k) xs taker) (change_put (lowered_row k) rows giver from at) ∙ change_put (raised_row k) given taker to there

pub moved_none : (rows : List Row) (giver taker : ℕ) → rows_moved rows giver taker 0 ≡ rows
moved_none rows giver taker = ap (λ (xs : List Row). change_at (raised_row 0) xs taker) (change_none (lowered_row 0) lowered_row-none rows giver) ∙ change_none (raised_row 0) raised_row-none rows taker

moved_more : (rows : List Row) (giver taker k : ℕ) (from to : Row) → giver ≢ taker → slice_get rows giver ≡ Some from → slice_get rows taker ≡ Some to
    → transferred (rows_moved rows giver taker k) giver taker ≡ rows_moved rows giver taker (k + 1)
moved_more rows giver taker k from to ne at at' =
    let ne' : taker ≢ giver = λ e. ne (sym e) in
    let a = lowered_row k from in
    let b = raised_row k to in
    let given = slice_set rows giver a in
    let then = slice_set rows giver (revoked_row a) in
    let here : slice_get (two_rows rows giver taker a b) giver ≡ Some a = set_other given taker giver b ne ∙ row_in rows giver from a at in
    let there : slice_get (slice_set then taker b) taker ≡ Some b = row_in then taker to b (set_other rows giver taker (revoked_row a) ne' ∙ at') in
    ap (λ (xs : List Row). transferred xs giver taker) (moved_is rows giver taker k from to ne at at')
    ∙ ap (λ (xs : List Row). change_at taken_row xs taker)
    (change_put revoked_row (two_rows rows giver taker a b) giver a here ∙ set_comm given taker giver b (revoked_row a) ne' ∙ ap (λ (xs : List Row). slice_set xs taker b) (set-set rows giver a (revoked_row a)))
    ∙ change_put taken_row (slice_set then taker b) taker b there
    ∙ set-set then taker b (taken_row b)
    ∙ ap (λ (row : Row). two_rows rows giver taker row (taken_row b)) (lowered_row-more k from)
    ∙ ap (λ (row : Row). two_rows rows giver taker (lowered_row (k + 1) from) row) (raised_row-more k to)
    ∙ sym (moved_is rows giver taker (k + 1) from to ne at at')

moved-have_shares : (rows : List Row) (giver taker k : ℕ) → HaveShares rows → HaveShares (rows_moved rows giver taker k)
moved-have_shares rows giver taker k h = change-have_shares (raised_row k) (λ row. refl) (change_at (lowered_row k) rows giver) taker (change-have_shares (lowered_row k) (λ row. refl) rows giver h)

moved_giver : (rows : List Row) (giver taker k : ℕ) (from to : Row) → giver ≢ taker → slice_get rows giver ≡ Some from → slice_get rows taker ≡ Some to → slice_get (rows_moved rows giver taker k) giver ≡ Some (lowered_row k from)
moved_giver rows giver taker k from to ne at at' =
    ap (λ (xs : List Row). slice_get xs giver) (moved_is rows giver taker k from to ne at at')
    ∙ set_other (slice_set rows giver (lowered_row k from)) taker giver (raised_row k to) ne
    ∙ row_in rows giver from (lowered_row k from) at

moved_taker : (rows : List Row) (giver taker k : ℕ) (from to : Row) → giver ≢ taker → slice_get rows giver ≡ Some from → slice_get rows taker ≡ Some to → slice_get (rows_moved rows giver taker k) taker ≡ Some (raised_row k to)
moved_taker rows giver taker k from to ne at at' =
    ap (λ (xs : List Row). slice_get xs taker) (moved_is rows giver taker k from to ne at at')
    ∙ row_in (slice_set rows giver (lowered_row k from)) taker to (raised_row k to) (set_other rows giver taker (lowered_row k from) (λ e. ne (sym e)) ∙ at')

-- ---- both sides after so many transfers

-- the transfers up to one, each of which is the next
abbrev pub EachNext : Tax → List Row → (giver taker count : ℕ) → Type 0
EachNext tax rows giver taker count = (k : ℕ) → k < count → IsTransfer tax (rows_moved rows giver taker k) giver taker

-- the two guests of a transfer
pub record Two (rows : List Row) (giver taker : ℕ) : Type 0 where
  pub from : Row
  pub to : Row
  pub from_at : slice_get rows giver ≡ Some from
  pub to_at : slice_get rows taker ≡ Some to
  pub two : giver ≢ taker

pub two_of : (tax : Tax) (rows : List Row) (giver taker : ℕ) → IsTransfer tax rows giver taker → Two rows giver taker
two_of tax rows giver taker t =
    let p = parties tax rows giver taker t in
    record { from = p.from; to = p.to; from_at = p.from_at; to_at = p.to_at; two = two_parties tax rows giver taker t }

own_moved : (tax : Tax) (rows own : List Row) (giver taker count : ℕ) → HaveShares rows → (two : Two rows giver taker) → slice_get own giver ≡ Some two.from → AreOwn tax rows own → EachNext tax rows giver taker count
    → AreOwn tax (rows_moved rows giver taker count) (change_at (lowered_row count) own giver)
own_moved tax rows own giver taker zero h two at are each =
    subst (λ (xs : List Row). AreOwn tax xs (change_at (lowered_row 0) own giver)) (sym (moved_none rows giver taker)) (subst (λ (xs : List Row). AreOwn tax rows xs) (sym (change_none (lowered_row 0) lowered_row-none own giver)) are)
own_moved tax rows own giver taker (suc k) h two at are each =
    let next : k + 1 ≡ suc k = omega arith in
    let before = own_moved tax rows own giver taker k h two at are (λ j l. each j (omega arith)) in
    let now = rows_moved rows giver taker k in
    let after = own_after tax now (change_at (lowered_row k) own giver) giver taker (moved-have_shares rows giver taker k h) (each k (omega arith)) before in
    let side = change_twice (lowered_row k) revoked_row (lowered_row (k + 1)) own giver two.from at (lowered_row-more k two.from) in
    let moved = moved_more rows giver taker k two.from two.to two.two two.from_at two.to_at in
    subst (λ (n : ℕ). AreOwn tax (rows_moved rows giver taker n) (change_at (lowered_row n) own giver)) next
    (subst (λ (xs : List Row). AreOwn tax xs (change_at (lowered_row (k + 1)) own giver)) moved (subst (λ (xs : List Row). AreOwn tax (transferred now giver taker) xs) side after))

grown_moved : (tax : Tax) (rows grown : List Row) (giver taker count : ℕ) → HaveShares rows → (two : Two rows giver taker) → slice_get grown taker ≡ Some two.to → AreGrown tax rows grown → EachNext tax rows giver taker count
    → AreGrown tax (rows_moved rows giver taker count) (change_at (raised_row count) grown taker)
grown_moved tax rows grown giver taker zero h two at are each =
    subst (λ (xs : List Row). AreGrown tax xs (change_at (raised_row 0) grown taker)) (sym (moved_none rows giver taker)) (subst (λ (xs : List Row). AreGrown tax rows xs) (sym (change_none (raised_row 0) raised_row-none grown taker)) are)
grown_moved tax rows grown giver taker (suc k) h two at are each =
    let next : k + 1 ≡ suc k = omega arith in
    let before = grown_moved tax rows grown giver taker k h two at are (λ j l. each j (omega arith)) in
    let now = rows_moved rows giver taker k in
    let after = grown_after tax now (change_at (raised_row k) grown taker) giver taker (moved-have_shares rows giver taker k h) (each k (omega arith)) before in
    let side = change_twice (raised_row k) taken_row (raised_row (k + 1)) grown taker two.to at (raised_row-more k two.to) in
    let moved = moved_more rows giver taker k two.from two.to two.two two.from_at two.to_at in
    subst (λ (n : ℕ). AreGrown tax (rows_moved rows giver taker n) (change_at (raised_row n) grown taker)) next
    (subst (λ (xs : List Row). AreGrown tax xs (change_at (raised_row (k + 1)) grown taker)) moved (subst (λ (xs : List Row). AreGrown tax (transferred now giver taker) xs) side after))

-- where one is there, the first is the next of the rows as they are
pub first_flows : (tax : Tax) (rows : List Row) (giver taker count : ℕ) → IsFlow tax rows giver taker count → IsTransfer tax rows giver taker
first_flows tax rows giver taker count f =
    let some = f.some in
    subst (λ (xs : List Row). IsTransfer tax xs giver taker) (moved_none rows giver taker) (f.each_next 0 (omega (arith, some)))

pub flow_of_one : (tax : Tax) (rows : List Row) (giver taker : ℕ) → IsTransfer tax rows giver taker → IsFlow tax rows giver taker 1
flow_of_one tax rows giver taker t = record {
  some = omega arith;
  each_next = λ k l.
      let none : 0 ≡ k = omega (arith, l) in
      subst (λ (n : ℕ). IsTransfer tax (rows_moved rows giver taker n) giver taker) none (subst (λ (xs : List Row). IsTransfer tax xs giver taker) (sym (moved_none rows giver taker)) t);
}

pub own_flows : (tax : Tax) (rows own : List Row) (giver taker count : ℕ) → HaveShares rows → IsFlow tax rows giver taker count → AreOwn tax rows own → AreOwn tax (rows_moved rows giver taker count) (change_at (lowered_row count) own giver)
own_flows tax rows own giver taker count h f are =
    let t = first_flows tax rows giver taker count f in
    let two = two_of tax rows giver taker t in
    own_moved tax rows own giver taker count h two (sym (own_giver tax rows own giver taker h t are) ∙ two.from_at) are f.each_next

pub grown_flows : (tax : Tax) (rows grown : List Row) (giver taker count : ℕ) → HaveShares rows → IsFlow tax rows giver taker count → AreGrown tax rows grown → AreGrown tax (rows_moved rows giver taker count) (change_at (raised_row count) grown taker)
grown_flows tax rows grown giver taker count h f are =
    let t = first_flows tax rows giver taker count f in
    let two = two_of tax rows giver taker t in
    grown_moved tax rows grown giver taker count h two (sym (grown_taker tax rows grown giver taker h t are) ∙ two.to_at) are f.each_next

-- what the two have room for
pub record HaveRoom (rows : List Row) (giver taker count : ℕ) : Type 0 where
  pub above : IsSomeAnd (slice_get rows giver) (λ row. row.min + count ≤ row.target)
  pub demand : IsSomeAnd (slice_get rows taker) (λ row. count ≤ row.demand)
  pub room : IsSomeAnd (slice_get rows taker) (λ row. row.target + count ≤ row.cap)

at_row : (P : Row → Type 0) (o : Option Row) (row : Row) → o ≡ Some row → P row → IsSomeAnd o P
at_row P o row at h = subst (λ (x : Option Row). IsSomeAnd x P) (sym at) h

pub flow_room : (tax : Tax) (rows : List Row) (giver taker count : ℕ) → IsFlow tax rows giver taker count → HaveRoom rows giver taker count
flow_room tax rows giver taker count f =
    let some = f.some in
    let two = two_of tax rows giver taker (first_flows tax rows giver taker count f) in
    let last = f.each_next (count - 1) (omega (arith, some)) in
    let p = parties tax (rows_moved rows giver taker (count - 1)) giver taker last in
    let gives = same_Some p.from (lowered_row (count - 1) two.from) (sym p.from_at ∙ moved_giver rows giver taker (count - 1) two.from two.to two.two two.from_at two.to_at) in
    let takes = same_Some p.to (raised_row (count - 1) two.to) (sym p.to_at ∙ moved_taker rows giver taker (count - 1) two.from two.to two.two two.from_at two.to_at) in
    let above : two.from.min < two.from.target - (count - 1) = subst (λ (row : Row). row.min < row.target) gives p.above in
    let demand : 0 < two.to.demand - (count - 1) = subst (λ (row : Row). 0 < row.demand) takes p.demand in
    let room : two.to.target + (count - 1) < two.to.cap = subst (λ (row : Row). row.target < row.cap) takes p.room in
    record {
      above = at_row (λ row. row.min + count ≤ row.target) _ two.from two.from_at (omega (arith, above, some));
      demand = at_row (λ row. count ≤ row.demand) _ two.to two.to_at (omega (arith, demand, some));
      room = at_row (λ row. row.target + count ≤ row.cap) _ two.to two.to_at (omega (arith, room, some));
    }

-- ---- prices that come first, and others that are no greater or no less

above_more : (a : Ratio) (i : ℕ) (b c : Ratio) (j : ℕ) → 0 < a.shares → 0 < b.shares → 0 < c.shares → IsAbove a i b j → IsAtMost c b → IsAbove a i c j
above_more a i b c j some some' some'' (inl less) most = inl (most_then_less c b a some'' most less)
above_more a i b c j some some' some'' (inr e) most =
    let same = e.0 in
    let chain : IsAtMost c a = at_most_chain c b a some' most (omega (arith, same)) in
    ⊎_elim
    (λ (l : c.shares * a.weighted_pages < a.shares * c.weighted_pages). inl l)
    (λ (l : a.shares * c.weighted_pages ≤ c.shares * a.weighted_pages). let equal : a.shares * c.weighted_pages ≡ c.shares * a.weighted_pages = omega (arith, l, chain) in inr (equal, e.1))
    (cases_lt (c.shares * a.weighted_pages) (a.shares * c.weighted_pages))

below_more : (a : Ratio) (i : ℕ) (b c : Ratio) (j : ℕ) → 0 < a.shares → 0 < b.shares → 0 < c.shares → IsBelow a i b j → IsAtMost b c → IsBelow a i c j
below_more a i b c j some some' some'' (inl less) most = inl (less_then_most a b c some'' less most)
below_more a i b c j some some' some'' (inr e) most =
    let same = e.0 in
    let chain : IsAtMost a c = at_most_chain a b c some' (omega (arith, same)) most in
    ⊎_elim
    (λ (l : a.shares * c.weighted_pages < c.shares * a.weighted_pages). inl l)
    (λ (l : c.shares * a.weighted_pages ≤ a.shares * c.weighted_pages). let equal : a.shares * c.weighted_pages ≡ c.shares * a.weighted_pages = omega (arith, l, chain) in inr (equal, e.1))
    (cases_lt (a.shares * c.weighted_pages) (c.shares * a.weighted_pages))

-- a greater price stands above what a lesser one stands above
above_from : (a b : Ratio) (i : ℕ) (c : Ratio) (j : ℕ) → 0 < a.shares → 0 < b.shares → 0 < c.shares → IsAtMost a b → IsAbove a i c j → IsAbove b i c j
above_from a b i c j some some' some'' most (inl less) = inl (less_then_most c a b some' less most)
above_from a b i c j some some' some'' most (inr e) =
    let same = e.0 in
    let chain : IsAtMost c b = at_most_chain c a b some (omega (arith, same)) most in
    ⊎_elim
    (λ (l : c.shares * b.weighted_pages < b.shares * c.weighted_pages). inl l)
    (λ (l : b.shares * c.weighted_pages ≤ c.shares * b.weighted_pages). let equal : b.shares * c.weighted_pages ≡ c.shares * b.weighted_pages = omega (arith, l, chain) in inr (equal, e.1))
    (cases_lt (c.shares * b.weighted_pages) (b.shares * c.weighted_pages))

-- ---- what comes before a rival comes before all others of its side

own-have_shares : (tax : Tax) (rows own : List Row) → HaveShares rows → AreOwn tax rows own → HaveShares own
own-have_shares tax rows own h are k d l =
    let at = slice_get-get_or own k d l in
    ⊎_elim
    (λ same. shares_at rows k (get_or own k d) h (same ∙ at))
    (λ took.
    let is = same_Some took.1.row (get_or own k d) (sym took.1.before ∙ at) in
    let some : 1 ≤ took.1.row.shares = shares_at rows k (raised_row took.1.count took.1.row) h took.1.after in
    subst (λ (row : Row). 1 ≤ row.shares) is some)
    (are k)

grown-have_shares : (tax : Tax) (rows grown : List Row) → HaveShares rows → AreGrown tax rows grown → HaveShares grown
grown-have_shares tax rows grown h are k d l =
    let at = slice_get-get_or grown k d l in
    ⊎_elim
    (λ same. shares_at rows k (get_or grown k d) h (same ∙ at))
    (λ gave.
    let is = same_Some gave.1.row (get_or grown k d) (sym gave.1.before ∙ at) in
    let some : 1 ≤ gave.1.row.shares = shares_at rows k (lowered_row gave.1.count gave.1.row) h gave.1.after in
    subst (λ (row : Row). 1 ≤ row.shares) is some)
    (are k)

-- what is said of the row that is there
said_of : (P : Row → Type 0) (o : Option Row) (row : Row) → o ≡ Some row → IfSome o P → P row
said_of P o row at h = subst (λ (x : Option Row). IfSome x P) at h

-- the price of a rival on its side is no less than its price as it is
below_rival : (tax : Tax) (rows own : List Row) (giver other : ℕ) (price that : Ratio) → HaveShares rows → AreOwn tax rows own → 0 < price.shares → offer_at (revocable_ratios tax own) other ≡ Some that
    → IfSome (slice_get rows other) (λ row. IsBelow price giver (ratio_with tax row row.target) other) → IsBelow price giver that other
below_rival tax rows own giver other price that h are some e before =
    let there = revocable_at tax own other that e in
    ⊎_elim
    (λ same. subst (λ (r : Ratio). IsBelow price giver r other) there.3 (said_of (λ row. IsBelow price giver (ratio_with tax row row.target) other) (slice_get rows other) there.0 (same ∙ there.1) before))
    (λ took.
    let row = took.1.row in
    let is = same_Some there.0 row (sym there.1 ∙ took.1.before) in
    let mine = subst (λ (r : Row). ratio_with tax r r.target ≡ that) is there.3 in
    let shares : 1 ≤ row.shares = shares_at rows other (raised_row took.1.count row) h took.1.after in
    let now : IsBelow price giver (ratio_with tax row (row.target + took.1.count)) other = said_of (λ row. IsBelow price giver (ratio_with tax row row.target) other) (slice_get rows other) (raised_row took.1.count row) took.1.after before in
    subst (λ (r : Ratio). IsBelow price giver r other) mine
    (below_more price giver (ratio_with tax row (row.target + took.1.count)) (ratio_with tax row row.target) other some (price_has_shares tax row (row.target + took.1.count) shares) (price_has_shares tax row row.target shares) now
    (price_falls tax row row.target (row.target + took.1.count) (omega arith))))
    (are other)

above_rival : (tax : Tax) (rows grown : List Row) (taker other : ℕ) (price that : Ratio) → HaveShares rows → AreGrown tax rows grown → 0 < price.shares → offer_at (taking_ratios tax grown) other ≡ Some that
    → IfSome (slice_get rows other) (λ row. IsAbove price taker (ratio_with tax row (row.target + 1)) other) → IsAbove price taker that other
above_rival tax rows grown taker other price that h are some e before =
    let there = taking_at tax grown other that e in
    ⊎_elim
    (λ same. subst (λ (r : Ratio). IsAbove price taker r other) there.4 (said_of (λ row. IsAbove price taker (ratio_with tax row (row.target + 1)) other) (slice_get rows other) there.0 (same ∙ there.1) before))
    (λ gave.
    let row = gave.1.row in
    let is = same_Some there.0 row (sym there.1 ∙ gave.1.before) in
    let mine = subst (λ (r : Row). ratio_with tax r (r.target + 1) ≡ that) is there.4 in
    let shares : 1 ≤ row.shares = shares_at rows other (lowered_row gave.1.count row) h gave.1.after in
    let now : IsAbove price taker (ratio_with tax row ((row.target - gave.1.count) + 1)) other = said_of (λ row. IsAbove price taker (ratio_with tax row (row.target + 1)) other) (slice_get rows other) (lowered_row gave.1.count row) gave.1.after before in
    subst (λ (r : Ratio). IsAbove price taker r other) mine
    (above_more price taker (ratio_with tax row ((row.target - gave.1.count) + 1)) (ratio_with tax row (row.target + 1)) other some (price_has_shares tax row ((row.target - gave.1.count) + 1) shares) (price_has_shares tax row (row.target + 1) shares) now
    (price_falls tax row ((row.target - gave.1.count) + 1) (row.target + 1) (omega arith))))
    (are other)

gives_before_each : (tax : Tax) (rows own : List Row) (giver : ℕ) (price : Ratio) (rival : Option ℕ) → HaveShares rows → AreOwn tax rows own → 0 < price.shares
    → IfSome rival (IsLeast (others (revocable_ratios tax own) giver)) → IfNone rival (All IsNone (others (revocable_ratios tax own) giver)) → GivesFirst tax rows price giver rival
    → (o : ℕ) (that : Ratio) → offer_at (others (revocable_ratios tax own) giver) o ≡ Some that → IsBelow price giver that o
gives_before_each tax rows own giver price None h are some best none before o that e = absurd (none_at (others (revocable_ratios tax own) giver) o that none e)
gives_before_each tax rows own giver price (Some other) h are some best none before o that e =
    let prices = revocable_ratios tax own in
    let stands = other_stands prices giver other best.ratio best.here in
    below_each (others prices giver) price giver other best some (others-have_shares prices giver (revocable-have_shares tax own (own-have_shares tax rows own h are)))
    (below_rival tax rows own giver other price best.ratio h are some stands.1 before) o that e

takes_before_each : (tax : Tax) (rows grown : List Row) (taker : ℕ) (price : Ratio) (rival : Option ℕ) → HaveShares rows → AreGrown tax rows grown → 0 < price.shares
    → IfSome rival (IsGreatest (others (taking_ratios tax grown) taker)) → IfNone rival (All IsNone (others (taking_ratios tax grown) taker)) → TakesFirst tax rows price taker rival
    → (o : ℕ) (that : Ratio) → offer_at (others (taking_ratios tax grown) taker) o ≡ Some that → IsAbove price taker that o
takes_before_each tax rows grown taker price None h are some best none before o that e = absurd (none_at (others (taking_ratios tax grown) taker) o that none e)
takes_before_each tax rows grown taker price (Some other) h are some best none before o that e =
    let prices = taking_ratios tax grown in
    let stands = other_stands prices taker other best.ratio best.here in
    beats_each (others prices taker) price taker other best some (others-have_shares prices taker (taking-have_shares tax grown (grown-have_shares tax rows grown h are)))
    (above_rival tax rows grown taker other price best.ratio h are some stands.1 before) o that e

-- ---- what goes on after so many pages went on after fewer

gives_earlier : (tax : Tax) (rows : List Row) (from : Row) (giver k last : ℕ) (rival : Option ℕ) → k ≤ last → GivesFirst tax rows (ratio_with tax from (from.target - last)) giver rival → GivesFirst tax rows (ratio_with tax from (from.target - k)) giver rival
gives_earlier tax rows from giver k last None l before = tt
gives_earlier tax rows from giver k last (Some other) l before = go (slice_get rows other) before
  where
    go : (o : Option Row) → IfSome o (λ row. IsBelow (ratio_with tax from (from.target - last)) giver (ratio_with tax row row.target) other) → IfSome o (λ row. IsBelow (ratio_with tax from (from.target - k)) giver (ratio_with tax row row.target) other)
    go None h = tt
    go (Some row) h = behind_before tax from giver (from.target - k) (from.target - last) (ratio_with tax row row.target) other (omega arith) h

takes_earlier : (tax : Tax) (rows : List Row) (to : Row) (taker k last : ℕ) (rival : Option ℕ) → k ≤ last → TakesFirst tax rows (ratio_with tax to ((to.target + last) + 1)) taker rival → TakesFirst tax rows (ratio_with tax to ((to.target + k) + 1)) taker rival
takes_earlier tax rows to taker k last None l before = tt
takes_earlier tax rows to taker k last (Some other) l before = go (slice_get rows other) before
  where
    go : (o : Option Row) → IfSome o (λ row. IsAbove (ratio_with tax to ((to.target + last) + 1)) taker (ratio_with tax row (row.target + 1)) other) → IfSome o (λ row. IsAbove (ratio_with tax to ((to.target + k) + 1)) taker (ratio_with tax row (row.target + 1)) other)
    go None h = tt
    go (Some row) h = ahead_before tax to taker ((to.target + k) + 1) ((to.target + last) + 1) (ratio_with tax row (row.target + 1)) other (omega arith) h

more_earlier : (tax : Tax) (from to : Row) (k last : ℕ) → 1 ≤ from.shares → 1 ≤ to.shares → k ≤ last → IsLess (ratio_with tax from (from.target - last)) (ratio_with tax to ((to.target + last) + 1)) → IsLess (ratio_with tax from (from.target - k)) (ratio_with tax to ((to.target + k) + 1))
more_earlier tax from to k last some some' l less =
    most_then_less (ratio_with tax from (from.target - k)) (ratio_with tax from (from.target - last)) (ratio_with tax to ((to.target + k) + 1)) (price_has_shares tax from (from.target - k) some)
    (price_falls tax from (from.target - last) (from.target - k) (omega arith))
    (less_then_most (ratio_with tax from (from.target - last)) (ratio_with tax to ((to.target + last) + 1)) (ratio_with tax to ((to.target + k) + 1)) (price_has_shares tax to ((to.target + k) + 1) some') less
    (price_falls tax to ((to.target + k) + 1) ((to.target + last) + 1) (omega arith)))

kept_earlier : (tax : Tax) (from to : Row) (giver taker k last : ℕ) → 1 ≤ from.shares → 1 ≤ to.shares → k ≤ last → IsKept tax from to giver taker last → IsKept tax from to giver taker k
kept_earlier tax from to giver taker k last some some' l kept wants above =
    let back = ratio_with tax from ((from.target - k) - 1) in
    let back' = ratio_with tax from ((from.target - last) - 1) in
    let rival = ratio_with tax to (to.target + k) in
    let rival' = ratio_with tax to (to.target + last) in
    let greater = above_from back back' giver rival taker (price_has_shares tax from ((from.target - k) - 1) some) (price_has_shares tax from ((from.target - last) - 1) some) (price_has_shares tax to (to.target + k) some')
    (price_falls tax from ((from.target - last) - 1) ((from.target - k) - 1) (omega arith)) above in
    kept wants
    (above_more back' giver rival rival' taker (price_has_shares tax from ((from.target - last) - 1) some) (price_has_shares tax to (to.target + k) some') (price_has_shares tax to (to.target + last) some') greater
    (price_falls tax to (to.target + k) (to.target + last) (omega arith)))

-- ---- the next one after so many

least_moved : (tax : Tax) (own : List Row) (giver : ℕ) (from : Row) (k : ℕ) → slice_get own giver ≡ Some from → from.min + k < from.target
    → ((o : ℕ) (that : Ratio) → offer_at (others (revocable_ratios tax own) giver) o ≡ Some that → IsBelow (ratio_with tax from (from.target - k)) giver that o) → IsLeast (revocable_ratios tax (change_at (lowered_row k) own giver)) giver
least_moved tax own giver from k at above beats =
    subst (λ (xs : List Row). IsLeast (revocable_ratios tax xs) giver) (sym (change_put (lowered_row k) own giver from at)) (least_lowered tax own giver from k at above beats)

most_moved : (tax : Tax) (grown : List Row) (taker : ℕ) (to : Row) (k : ℕ) → slice_get grown taker ≡ Some to → k < to.demand → to.target + k < to.cap
    → ((o : ℕ) (that : Ratio) → offer_at (others (taking_ratios tax grown) taker) o ≡ Some that → IsAbove (ratio_with tax to ((to.target + k) + 1)) taker that o) → IsGreatest (taking_ratios tax (change_at (raised_row k) grown taker)) taker
most_moved tax grown taker to k at demand room beats =
    let offers = taking_ratios tax grown in
    let offer = taking_ratio tax (raised_row k to) in
    let changed = map-set (taking_ratio tax) grown taker (raised_row k to) in
    let now = slice_set grown taker (raised_row k to) in
    let found : IsGreatest (taking_ratios tax now) taker = record {
      ratio = ratio_with tax to ((to.target + k) + 1);
      here = takes_price tax now taker (raised_row k to) (row_in grown taker to (raised_row k to) at) (omega (arith, demand)) room;
      before_others = λ other that e ne. beats other that
          (get_or-set_other offers taker other None None ne ∙ sym (get_or-set_other offers taker other offer None ne) ∙ sym (ap (λ (xs : List (Option Ratio)). offer_at xs other) changed) ∙ e);
    } in
    subst (λ (xs : List Row). IsGreatest (taking_ratios tax xs) taker) (sym (change_put (raised_row k) grown taker to at)) found

-- the taker is granted a page before the giver, so nothing comes straight back
stays_moved : (tax : Tax) (rows : List Row) (giver taker k : ℕ) (from to : Row) → giver ≢ taker → slice_get rows giver ≡ Some (lowered_row k from) → slice_get rows taker ≡ Some (raised_row k to) → k < to.demand → to.target + k < to.cap
    → IsKept tax from to giver taker k → ¬ ComesBack tax rows giver
stays_moved tax rows giver taker k from to ne at at' demand room kept back =
    let wants = back_demand tax rows giver (lowered_row k from) at back in
    let lead = said_of (λ row. Leads tax (ratio_with tax from ((from.target - k) - 1)) giver row taker) (slice_get rows taker) (raised_row k to) at' (leads_from_back tax rows giver (lowered_row k from) at back taker) in
    let test : nat_lt 0 (to.demand - k) ≡ true = lt-ltb 0 (to.demand - k) (omega (arith, demand)) in
    let test' : nat_lt (to.target + k) to.cap ≡ true = lt-ltb (to.target + k) to.cap room in
    let offered : wanting_ratio tax (raised_row k to) ≡ Some (ratio_with tax to (to.target + k)) = rw (test, test') refl in
    kept wants (subst (λ (o : Option Ratio). IfSome o (λ that. IsAbove (ratio_with tax from ((from.target - k) - 1)) giver that taker)) offered (lead ne))

next_moved : (tax : Tax) (rows own grown : List Row) (giver taker k : ℕ) (giving taking : Option ℕ) → HaveShares rows → AreOwn tax rows own → AreGrown tax rows grown → (t : IsTransfer tax rows giver taker)
    → AreOwn tax (rows_moved rows giver taker k) (change_at (lowered_row k) own giver) → AreGrown tax (rows_moved rows giver taker k) (change_at (raised_row k) grown taker)
    → IfSome giving (IsLeast (others (revocable_ratios tax own) giver)) → IfNone giving (All IsNone (others (revocable_ratios tax own) giver))
    → IfSome taking (IsGreatest (others (taking_ratios tax grown) taker)) → IfNone taking (All IsNone (others (taking_ratios tax grown) taker))
    → HaveRoom rows giver taker (k + 1) → (from to : Row) → slice_get rows giver ≡ Some from → slice_get rows taker ≡ Some to → GoesOn tax rows from to giver taker giving taking k → IsTransfer tax (rows_moved rows giver taker k) giver taker
next_moved tax rows own grown giver taker k giving taking h are are' t now now' best none best' none' room from to from_at to_at g =
    let two = two_parties tax rows giver taker t in
    let from_own = sym (own_giver tax rows own giver taker h t are) ∙ from_at in
    let to_grown = sym (grown_taker tax rows grown giver taker h t are') ∙ to_at in
    let some = shares_at rows giver from h from_at in
    let some' = shares_at rows taker to h to_at in
    let above = said_of' (λ row. row.min + (k + 1) ≤ row.target) (slice_get rows giver) from from_at room.above in
    let demand = said_of' (λ row. k + 1 ≤ row.demand) (slice_get rows taker) to to_at room.demand in
    let below = said_of' (λ row. row.target + (k + 1) ≤ row.cap) (slice_get rows taker) to to_at room.room in
    let least = least_moved tax own giver from k from_own (omega (arith, above)) (gives_before_each tax rows own giver (ratio_with tax from (from.target - k)) giving h are (price_has_shares tax from (from.target - k) some) best none g.gives) in
    let most = most_moved tax grown taker to k to_grown (omega (arith, demand)) (omega (arith, below)) (takes_before_each tax rows grown taker (ratio_with tax to ((to.target + k) + 1)) taking h are' (price_has_shares tax to ((to.target + k) + 1) some') best' none' g.takes) in
    let at = moved_giver rows giver taker k from to two from_at to_at in
    let at' = moved_taker rows giver taker k from to two from_at to_at in
    let pays : Pays tax (rows_moved rows giver taker k) giver taker = record {
      from = lowered_row k from;
      to = raised_row k to;
      from_at = at;
      to_at = at';
      more = g.more;
      stays = stays_moved tax (rows_moved rows giver taker k) giver taker k from to two at at' (omega (arith, demand)) (omega (arith, below)) g.stays;
    } in
    transfer_from_sides tax (rows_moved rows giver taker k) (change_at (lowered_row k) own giver) (change_at (raised_row k) grown taker) giver taker (moved-have_shares rows giver taker k h) now now' least most pays
  where
    said_of' : (P : Row → Type 0) (o : Option Row) (row : Row) → o ≡ Some row → IsSomeAnd o P → P row
    said_of' P o row at h = subst (λ (x : Option Row). IsSomeAnd x P) at h

-- what goes on after the last went on before
goes_on_earlier : (tax : Tax) (rows : List Row) (from to : Row) (giver taker k last : ℕ) (giving taking : Option ℕ) → 1 ≤ from.shares → 1 ≤ to.shares → k ≤ last → GoesOn tax rows from to giver taker giving taking last
    → GoesOn tax rows from to giver taker giving taking k
goes_on_earlier tax rows from to giver taker k last giving taking some some' l g = record {
  gives = gives_earlier tax rows from giver k last giving l g.gives;
  takes = takes_earlier tax rows to taker k last taking l g.takes;
  more = more_earlier tax from to k last some some' l g.more;
  stays = kept_earlier tax from to giver taker k last some some' l g.stays;
}

fewer_room : (rows : List Row) (giver taker few many : ℕ) → few ≤ many → HaveRoom rows giver taker many → HaveRoom rows giver taker few
fewer_room rows giver taker few many l room = record {
  above = some_and (slice_get rows giver) (λ row. row.min + many ≤ row.target) (λ row. row.min + few ≤ row.target) (λ row fits. omega (arith, l, fits)) room.above;
  demand = some_and (slice_get rows taker) (λ row. many ≤ row.demand) (λ row. few ≤ row.demand) (λ row fits. omega (arith, l, fits)) room.demand;
  room = some_and (slice_get rows taker) (λ row. row.target + many ≤ row.cap) (λ row. row.target + few ≤ row.cap) (λ row fits. omega (arith, l, fits)) room.room;
}
  where
    some_and : (o : Option Row) (P Q : Row → Type 0) → ((row : Row) → P row → Q row) → IsSomeAnd o P → IsSomeAnd o Q
    some_and None P Q f h = absurd h
    some_and (Some row) P Q f h = f row h

-- the first is the next one, and the last goes on
pub flow_of : (tax : Tax) (rows own grown : List Row) (giver taker count : ℕ) (giving taking : Option ℕ) → HaveShares rows → AreOwn tax rows own → AreGrown tax rows grown → IsTransfer tax rows giver taker
    → IfSome giving (IsLeast (others (revocable_ratios tax own) giver)) → IfNone giving (All IsNone (others (revocable_ratios tax own) giver))
    → IfSome taking (IsGreatest (others (taking_ratios tax grown) taker)) → IfNone taking (All IsNone (others (taking_ratios tax grown) taker))
    → HaveRoom rows giver taker count → 1 ≤ count → (from to : Row) → slice_get rows giver ≡ Some from → slice_get rows taker ≡ Some to → (1 < count → GoesOn tax rows from to giver taker giving taking (count - 1))
    → IsFlow tax rows giver taker count
flow_of tax rows own grown giver taker count giving taking h are are' t best none best' none' room some from to from_at to_at last = record {
  some = some;
  each_next = each count (omega arith);
}
  where
    each : (n : ℕ) → n ≤ count → EachNext tax rows giver taker n
    each zero l k few = absurd (omega (arith, few))
    each (suc n) l k few =
        let before = each n (omega (arith, l)) in
        let two = two_of tax rows giver taker t in
        ⊎_elim
        (λ (less : k < n). before k less)
        (λ (not : n ≤ k).
        let same : n ≡ k = omega (arith, few, not) in
        subst (λ (m : ℕ). IsTransfer tax (rows_moved rows giver taker m) giver taker) same
        (⊎_elim
        (λ (first : n ≡ 0). subst (λ (m : ℕ). IsTransfer tax (rows_moved rows giver taker m) giver taker) (sym first) (subst (λ (xs : List Row). IsTransfer tax xs giver taker) (sym (moved_none rows giver taker)) t))
        (λ (later : n ≢ 0).
        let some' : 1 ≤ n = omega (arith, later) in
        let own_now = own_moved tax rows own giver taker n h two (sym (own_giver tax rows own giver taker h t are) ∙ two.from_at) are before in
        let grown_now = grown_moved tax rows grown giver taker n h two (sym (grown_taker tax rows grown giver taker h t are') ∙ two.to_at) are' before in
        next_moved tax rows own grown giver taker n giving taking h are are' t own_now grown_now best none best' none' (fewer_room rows giver taker (n + 1) count (omega (arith, l)) room) from to from_at to_at
        (goes_on_earlier tax rows from to giver taker n (count - 1) giving taking (shares_at rows giver from h from_at) (shares_at rows taker to h to_at) (omega (arith, l)) (last (omega (arith, some', l)))))
        (cases_eq n 0)))
        (cases_lt k n)

-- ---- the list after so many entries

pub given_flows : (tax : Tax) (rows : List Row) (giver taker count : ℕ) → HaveShares rows → EachNext tax rows giver taker count → rows_given tax rows (replicate count giver) ≡ rows_moved rows giver taker count
given_flows tax rows giver taker zero h each = sym (moved_none rows giver taker)
given_flows tax rows giver taker (suc k) h each =
    let more = replicate_more k giver in
    let next : k + 1 ≡ suc k = omega arith in
    let t = each k (omega arith) in
    let first = subst (λ (xs : List Row). IsTransfer tax xs giver taker) (moved_none rows giver taker) (each 0 (omega arith)) in
    let two = two_of tax rows giver taker first in
    ap (λ (n : ℕ). rows_given tax rows (replicate n giver)) (sym next)
    ∙ ap (rows_given tax rows) (sym more)
    ∙ fold-append (given_by tax) rows (replicate k giver) (giver ∷ [])
    ∙ ap (λ (xs : List Row). given_by tax xs giver) (given_flows tax rows giver taker k h (λ j l. each j (omega arith)))
    ∙ given_is tax (rows_moved rows giver taker k) giver taker (moved-have_shares rows giver taker k h) t
    ∙ moved_more rows giver taker k two.from two.to two.two two.from_at two.to_at
    ∙ ap (rows_moved rows giver taker) next

-- its entries follow those before
pub each_flow : (tax : Tax) (start now : List Row) (moves : List ℕ) (giver taker count : ℕ) → HaveShares now → now ≡ rows_given tax start moves → IsFlow tax now giver taker count
    → EachMove (λ before move. IsNextGiver tax (rows_given tax start before) move) moves → EachMove (λ before move. IsNextGiver tax (rows_given tax start before) move) (moves ++ replicate count giver)
each_flow tax start now moves giver taker count h is flow each =
    each-append (λ before move. IsNextGiver tax (rows_given tax start before) move) moves (replicate count giver) each
    (λ i l.
    let wide = length-replicate count giver in
    let few : i < count = omega (arith, l, wide) in
    let before : take i (replicate count giver) ≡ replicate i giver = take-replicate i count giver (omega (arith, few)) in
    let mine : slice_index (replicate count giver) i ≡ giver = get_or-replicate count i giver 0 few in
    let then = fold-append (given_by tax) start moves (take i (replicate count giver)) ∙ ap (λ (xs : List Row). rows_given tax xs (take i (replicate count giver))) (sym is) ∙ ap (rows_given tax now) before
    ∙ given_flows tax now giver taker i h (λ j m. flow.each_next j (omega (arith, m, few))) in
    subst (λ (xs : List Row). IsNextGiver tax xs (slice_index (replicate count giver) i)) (sym then)
    (subst (λ (n : ℕ). IsNextGiver tax (rows_moved now giver taker i) n) (sym mine) (taker, flow.each_next i few)))

-- ---- the rivals are there

pub giving_within : (tax : Tax) (rows own : List Row) (giver : ℕ) (rival : Option ℕ) → AreOwn tax rows own → IfSome rival (IsLeast (others (revocable_ratios tax own) giver)) → IfSome rival (λ other. other < length rows)
giving_within tax rows own giver None are best = tt
giving_within tax rows own giver (Some other) are best =
    let stands = other_stands (revocable_ratios tax own) giver other best.ratio best.here in
    let there = some_row_in (slice_get rows other) (can_give tax rows own other best.ratio are stands.1) in
    slice_get_within rows other there.0 there.1

pub taking_within : (tax : Tax) (rows grown : List Row) (taker : ℕ) (rival : Option ℕ) → AreGrown tax rows grown → IfSome rival (IsGreatest (others (taking_ratios tax grown) taker)) → IfSome rival (λ other. other < length rows)
taking_within tax rows grown taker None are best = tt
taking_within tax rows grown taker (Some other) are best =
    let stands = other_stands (taking_ratios tax grown) taker other best.ratio best.here in
    let there = some_row_in (slice_get rows other) (would_take tax rows grown other best.ratio are stands.1) in
    slice_get_within rows other there.0 there.1

pub taking_room : (tax : Tax) (rows : List PlanRow) (grown : List Row) (taker : ℕ) (rival : Option ℕ) → AreGrown tax (rows_of rows) grown → IfSome rival (IsGreatest (others (taking_ratios tax grown) taker))
    → IfSome rival (λ other. IfSome (slice_get rows other) (λ row. row.target < row.cap))
taking_room tax rows grown taker None are best = tt
taking_room tax rows grown taker (Some other) are best =
    let stands = other_stands (taking_ratios tax grown) taker other best.ratio best.here in
    let would = would_take tax (rows_of rows) grown other best.ratio are stands.1 in
    let there = some_row_in (slice_get (rows_of rows) other) would in
    plan_row_fact (λ row. row.target < row.cap) rows other (at_row (λ row. row.target < row.cap) _ there.0 there.1 there.2.1)
