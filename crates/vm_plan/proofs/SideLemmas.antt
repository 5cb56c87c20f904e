-- The two sides of a rebalancing: prices of givers as if nobody took, and prices of takers as if nobody gave, name the next transfer.
use Rattle.std.proofs.Common.{◌≡◌, ◌≢◌, ℕ, ◌+◌, ◌-◌, ◌<◌, ◌≤◌, ◌⊎◌, nat_lt, ◌&&◌, true, List, Option, Some, IfSome, IsSomeAnd, length, slice_get, slice_set, get_or, inl, inr, ⊎_elim, sym, refl, ap, ◌∙◌, subst, arith, zero, suc, [], ◌∷◌, take}
use Rattle.std.specs.Option.{option_map, option_map_or}
use Rattle.std.proofs.lemmas.List.{length-map}
use Rattle.std.proofs.lemmas.Bool.{cases_eq, lt-ltb, ltb-true}
use Rattle.std.proofs.lemmas.Option.{cond_some, same_Some, slice_get_cases, slice_get_within, get_or_from_slice_get}
use Rattle.vm_tax.specs.declared.price.Price.{Price}
use Rattle.vm_tax.specs.Price.{ratio_of}
use Rattle.vm_tax.specs.Prices.{HaveOneTax}
use Rattle.vm_tax.specs.Ratio.{Ratio, Tax, IsLess, IsBelow, IsAbove, hundredths}
use Rattle.vm_tax.specs.Offers.{offer_at, IsLeast, IsGreatest, greatest_position}
use Rattle.vm_tax.proofs.OfferLemmas.{greatest_position-from}
use Rattle.vm_tax.proofs.Fractions.{adjusted_ratio-shares, less-chain_left, less-chain_right}
use Rattle.vm_plan.specs.declared.row.PlanRow.{PlanRow}
use Rattle.vm_plan.specs.declared.tracking.Kind.{Kind}
use Rattle.vm_plan.specs.PlanRow.{row_of, rows_of}
use Rattle.vm_plan.specs.Track.{ratio_in, IsTracked}
use Rattle.vm_plan.specs.Row.{Row, HaveShares, ratio_with, revocable_ratio, revocable_ratios, change_at}
use Rattle.vm_plan.specs.Revocation.{revoked_row}
use Rattle.vm_plan.specs.Rebalancing.{taking_ratio, taking_ratios, taken_row, transferred, IsTransfer, given_by, rows_given, GiversTakeNone}
use Rattle.vm_plan.specs.Runs.{lowered_row, raised_row}
use Rattle.vm_plan.specs.Sides.{IsAtMost, Keeps, Spares, HasTaken, HasGiven, AreOwn, AreGrown, Pays, IsSideAt}
use Rattle.vm_plan.proofs.ChangeLemmas.{offer_of, row_changed, row_unchanged, same_offer}
use Rattle.vm_plan.proofs.GrantLemmas.{both, row_at}
use Rattle.vm_plan.proofs.KeepLemmas.{floors_after, keeper_gives_none, keeper_keeps, taker_keeps, Each, each_after, first_of, given-have_shares}
use Rattle.vm_plan.proofs.Places.{offered_row}
use Rattle.vm_plan.proofs.RevocationRunLemmas.{lowered_row-more}
use Rattle.vm_plan.proofs.RowLemmas.{taking-have_shares, revocable-have_shares}
use Rattle.vm_plan.proofs.TrackLemmas.{tracked-one_tax, tracked-set}
use Rattle.vm_plan.proofs.TransferLemmas.{at_most_itself, not_less, at_most_chain, price_falls, least_floors, parties, two_parties, giver_after, taker_after, other_after, given_is}

-- ---- a guest that gave takes none

spares_takes_none : (tax : Tax) (rows : List Row) (giver taker : ℕ) → HaveShares rows → IsTransfer tax rows giver taker → Spares tax rows taker → ⊥
spares_takes_none tax rows giver taker h t spares =
    let p = parties tax rows giver taker t in
    let low = subst (λ (r : Ratio). IsAtMost r spares.floor) p.pays (subst (λ (o : Option Row). IsSomeAnd o (λ row. IsAtMost (ratio_with tax row (row.target + 1)) spares.floor)) p.to_at spares.low) in
    not_less t.most.ratio t.least.ratio (at_most_chain t.most.ratio spares.floor t.least.ratio spares.some low (spares.floors giver t.least.ratio t.least.here)) t.pays_more

giver_spares : (tax : Tax) (rows : List Row) (giver taker : ℕ) → HaveShares rows → IsTransfer tax rows giver taker → Spares tax (transferred rows giver taker) giver
giver_spares tax rows giver taker h t =
    let p = parties tax rows giver taker t in
    let after = giver_after rows giver taker p.from (two_parties tax rows giver taker t) p.from_at in
    let pages : (p.from.target - 1) + 1 ≡ p.from.target = let above = p.above in omega (arith, above) in
    let price = ap (ratio_with tax p.from) pages ∙ p.price in
    record {
      floor = t.least.ratio;
      some = revocable-have_shares tax rows h giver t.least.ratio t.least.here;
      floors = floors_after tax t.least.ratio rows giver taker h t (λ k that e. least_floors (revocable_ratios tax rows) giver k that t.least e);
      low = subst (λ (o : Option Row). IsSomeAnd o (λ row. IsAtMost (ratio_with tax row (row.target + 1)) t.least.ratio)) (sym after) (subst (λ (r : Ratio). IsAtMost r t.least.ratio) (sym price) (at_most_itself t.least.ratio));
    }

spares_on : (tax : Tax) (rows : List Row) (giver taker guest : ℕ) → HaveShares rows → IsTransfer tax rows giver taker → Spares tax rows guest → Spares tax (transferred rows giver taker) guest
spares_on tax rows giver taker guest h t spares =
    ⊎_elim
    (λ (same : guest ≡ giver). subst (λ (k : ℕ). Spares tax (transferred rows giver taker) k) (sym same) (giver_spares tax rows giver taker h t))
    (λ (ne : guest ≢ giver).
    let ne' : guest ≢ taker = λ same. spares_takes_none tax rows giver taker h t (subst (λ (k : ℕ). Spares tax rows k) same spares) in
    record {
      floor = spares.floor;
      some = spares.some;
      floors = floors_after tax spares.floor rows giver taker h t spares.floors;
      low = subst (λ (o : Option Row). IsSomeAnd o (λ row. IsAtMost (ratio_with tax row (row.target + 1)) spares.floor)) (sym (other_after rows giver taker guest ne ne')) spares.low;
    })
    (cases_eq guest giver)

sparer_never_takes : (tax : Tax) (rows : List Row) (guest : ℕ) (givers : List ℕ) → HaveShares rows → Spares tax rows guest → Each tax rows givers → (j : ℕ) → j < length givers
    → ¬ (greatest_position (taking_ratios tax (rows_given tax rows (take j givers))) ≡ Some guest)
sparer_never_takes tax rows guest [] h spares each j l e = absurd (omega arith)
sparer_never_takes tax rows guest (giver ∷ givers) h spares each zero l e =
    let next = first_of tax rows giver givers each in
    let taker = same_Some next.0 guest (sym (greatest_position-from (taking_ratios tax rows) next.0 (taking-have_shares tax rows h) next.1.most) ∙ e) in
    spares_takes_none tax rows giver next.0 h next.1 (subst (λ (k : ℕ). Spares tax rows k) (sym taker) spares)
sparer_never_takes tax rows guest (giver ∷ givers) h spares each (suc j) l e =
    let next = first_of tax rows giver givers each in
    let after = sym (given_is tax rows giver next.0 h next.1) in
    sparer_never_takes tax (given_by tax rows giver) guest givers (given-have_shares tax rows giver next.0 h next.1)
    (subst (λ (xs : List Row). Spares tax xs guest) after (spares_on tax rows giver next.0 guest h next.1 spares)) (each_after tax rows giver givers each) j (omega arith) e

pub givers_take_none : (tax : Tax) (rows : List Row) (givers : List ℕ) → HaveShares rows → Each tax rows givers → GiversTakeNone tax rows givers
givers_take_none tax rows [] h each i j l m e = absurd (omega arith)
givers_take_none tax rows (giver ∷ givers) h each i zero l m e = absurd (omega arith)
givers_take_none tax rows (giver ∷ givers) h each zero (suc j) l m e =
    let next = first_of tax rows giver givers each in
    let after = sym (given_is tax rows giver next.0 h next.1) in
    sparer_never_takes tax (given_by tax rows giver) giver givers (given-have_shares tax rows giver next.0 h next.1)
    (subst (λ (xs : List Row). Spares tax xs giver) after (giver_spares tax rows giver next.0 h next.1)) (each_after tax rows giver givers each) j (omega arith) e
givers_take_none tax rows (giver ∷ givers) h each (suc i) (suc j) l m e =
    let next = first_of tax rows giver givers each in
    givers_take_none tax (given_by tax rows giver) givers (given-have_shares tax rows giver next.0 h next.1) (each_after tax rows giver givers each) i j (omega arith) (omega arith) e

-- ---- both sides after a transfer

pub raised_row-more : (k : ℕ) (row : Row) → taken_row (raised_row k row) ≡ raised_row (k + 1) row
raised_row-more k row =
    let target : (row.target + k) + 1 ≡ row.target + (k + 1) = omega arith in
    let demand : (row.demand - k) - 1 ≡ row.demand - (k + 1) = omega arith in
    λ i. record row { target = target i; demand = demand i }

pub own_giver : (tax : Tax) (rows own : List Row) (giver taker : ℕ) → HaveShares rows → IsTransfer tax rows giver taker → AreOwn tax rows own → slice_get rows giver ≡ slice_get own giver
own_giver tax rows own giver taker h t are = ⊎_elim (λ same. same) (λ keeps. absurd (keeper_gives_none tax rows giver taker h t keeps.0)) (are giver)

pub grown_taker : (tax : Tax) (rows grown : List Row) (giver taker : ℕ) → HaveShares rows → IsTransfer tax rows giver taker → AreGrown tax rows grown → slice_get rows taker ≡ slice_get grown taker
grown_taker tax rows grown giver taker h t are = ⊎_elim (λ same. same) (λ spares. absurd (spares_takes_none tax rows giver taker h t spares.0)) (are taker)

has_taken : (rows own : List Row) (giver taker : ℕ) (to : Row) → giver ≢ taker → slice_get rows taker ≡ Some to → (slice_get rows taker ≡ slice_get own taker) ⊎ HasTaken rows own taker
    → HasTaken (transferred rows giver taker) (change_at revoked_row own giver) taker
has_taken rows own giver taker to two at (inl same) = record {
  count = 1;
  row = to;
  before = row_unchanged revoked_row own giver taker (λ e. two (sym e)) ∙ sym same ∙ at;
  after = taker_after rows giver taker to two at;
}
has_taken rows own giver taker to two at (inr took) = record {
  count = took.count + 1;
  row = took.row;
  before = row_unchanged revoked_row own giver taker (λ e. two (sym e)) ∙ took.before;
  after = taker_after rows giver taker (raised_row took.count took.row) two took.after ∙ ap (λ (row : Row). Some row) (raised_row-more took.count took.row);
}

has_given : (rows grown : List Row) (giver taker : ℕ) (from : Row) → giver ≢ taker → slice_get rows giver ≡ Some from → (slice_get rows giver ≡ slice_get grown giver) ⊎ HasGiven rows grown giver
    → HasGiven (transferred rows giver taker) (change_at taken_row grown taker) giver
has_given rows grown giver taker from two at (inl same) = record {
  count = 1;
  row = from;
  before = row_unchanged taken_row grown taker giver two ∙ sym same ∙ at;
  after = giver_after rows giver taker from two at;
}
has_given rows grown giver taker from two at (inr gave) = record {
  count = gave.count + 1;
  row = gave.row;
  before = row_unchanged taken_row grown taker giver two ∙ gave.before;
  after = giver_after rows giver taker (lowered_row gave.count gave.row) two gave.after ∙ ap (λ (row : Row). Some row) (lowered_row-more gave.count gave.row);
}

or_taken : (tax : Tax) (rows own : List Row) (k : ℕ) → (slice_get rows k ≡ slice_get own k) ⊎ (Keeps tax rows k × HasTaken rows own k) → (slice_get rows k ≡ slice_get own k) ⊎ HasTaken rows own k
or_taken tax rows own k (inl same) = inl same
or_taken tax rows own k (inr took) = inr took.1

or_given : (tax : Tax) (rows grown : List Row) (k : ℕ) → (slice_get rows k ≡ slice_get grown k) ⊎ (Spares tax rows k × HasGiven rows grown k) → (slice_get rows k ≡ slice_get grown k) ⊎ HasGiven rows grown k
or_given tax rows grown k (inl same) = inl same
or_given tax rows grown k (inr gave) = inr gave.1

pub own_after : (tax : Tax) (rows own : List Row) (giver taker : ℕ) → HaveShares rows → IsTransfer tax rows giver taker → AreOwn tax rows own → AreOwn tax (transferred rows giver taker) (change_at revoked_row own giver)
own_after tax rows own giver taker h t are k =
    let p = parties tax rows giver taker t in
    let two = two_parties tax rows giver taker t in
    ⊎_elim
    (λ (same : k ≡ taker).
    let took : Keeps tax (transferred rows giver taker) taker × HasTaken (transferred rows giver taker) (change_at revoked_row own giver) taker = (taker_keeps tax rows giver taker h t, has_taken rows own giver taker p.to two p.to_at (or_taken tax rows own taker (are taker))) in
    subst (λ (n : ℕ). (slice_get (transferred rows giver taker) n ≡ slice_get (change_at revoked_row own giver) n) ⊎ (Keeps tax (transferred rows giver taker) n × HasTaken (transferred rows giver taker) (change_at revoked_row own giver) n)) (sym same) (inr took))
    (λ (ne : k ≢ taker). ⊎_elim
    (λ (same : k ≡ giver).
    let here = sym (own_giver tax rows own giver taker h t are) ∙ p.from_at in
    let alike = giver_after rows giver taker p.from two p.from_at ∙ sym (row_changed revoked_row own giver p.from here) in
    inl (subst (λ (n : ℕ). slice_get (transferred rows giver taker) n ≡ slice_get (change_at revoked_row own giver) n) (sym same) alike))
    (λ (ne' : k ≢ giver). ⊎_elim
    (λ is. inl (other_after rows giver taker k ne' ne ∙ is ∙ sym (row_unchanged revoked_row own giver k ne')))
    (λ took. inr (
      keeper_keeps tax rows giver taker k h t took.0,
      record {
        count = took.1.count;
        row = took.1.row;
        before = row_unchanged revoked_row own giver k ne' ∙ took.1.before;
        after = other_after rows giver taker k ne' ne ∙ took.1.after;
      },
    ))
    (are k))
    (cases_eq k giver))
    (cases_eq k taker)

pub grown_after : (tax : Tax) (rows grown : List Row) (giver taker : ℕ) → HaveShares rows → IsTransfer tax rows giver taker → AreGrown tax rows grown → AreGrown tax (transferred rows giver taker) (change_at taken_row grown taker)
grown_after tax rows grown giver taker h t are k =
    let p = parties tax rows giver taker t in
    let two = two_parties tax rows giver taker t in
    ⊎_elim
    (λ (same : k ≡ giver).
    let gave : Spares tax (transferred rows giver taker) giver × HasGiven (transferred rows giver taker) (change_at taken_row grown taker) giver = (giver_spares tax rows giver taker h t, has_given rows grown giver taker p.from two p.from_at (or_given tax rows grown giver (are giver))) in
    subst (λ (n : ℕ). (slice_get (transferred rows giver taker) n ≡ slice_get (change_at taken_row grown taker) n) ⊎ (Spares tax (transferred rows giver taker) n × HasGiven (transferred rows giver taker) (change_at taken_row grown taker) n)) (sym same) (inr gave))
    (λ (ne : k ≢ giver). ⊎_elim
    (λ (same : k ≡ taker).
    let here = sym (grown_taker tax rows grown giver taker h t are) ∙ p.to_at in
    let alike = taker_after rows giver taker p.to two p.to_at ∙ sym (row_changed taken_row grown taker p.to here) in
    inl (subst (λ (n : ℕ). slice_get (transferred rows giver taker) n ≡ slice_get (change_at taken_row grown taker) n) (sym same) alike))
    (λ (ne' : k ≢ taker). ⊎_elim
    (λ is. inl (other_after rows giver taker k ne ne' ∙ is ∙ sym (row_unchanged taken_row grown taker k ne')))
    (λ gave. inr (
      spares_on tax rows giver taker k h t gave.0,
      record {
        count = gave.1.count;
        row = gave.1.row;
        before = row_unchanged taken_row grown taker k ne' ∙ gave.1.before;
        after = other_after rows giver taker k ne ne' ∙ gave.1.after;
      },
    ))
    (are k))
    (cases_eq k taker))
    (cases_eq k giver)

-- ---- the next transfer, by what the sides name

pub less_then_most : (a b c : Ratio) → 0 < c.shares → IsLess a b → IsAtMost b c → IsLess a c
less_then_most a b c some l m = less-chain_left a.shares a.weighted_pages b.shares b.weighted_pages c.shares c.weighted_pages some l m

pub most_then_less : (a b c : Ratio) → 0 < a.shares → IsAtMost a b → IsLess b c → IsLess a c
most_then_less a b c some l m = less-chain_right a.shares a.weighted_pages b.shares b.weighted_pages c.shares c.weighted_pages some l m

pub shares_at : (rows : List Row) (k : ℕ) (row : Row) → HaveShares rows → slice_get rows k ≡ Some row → 1 ≤ row.shares
shares_at rows k row h at = subst (λ (r : Row). 1 ≤ r.shares) (get_or_from_slice_get rows k row row at) (h k row (slice_get_within rows k row at))

pub price_has_shares : (tax : Tax) (row : Row) (pages : ℕ) → 1 ≤ row.shares → 0 < (ratio_with tax row pages).shares
price_has_shares tax row pages h = rw (adjusted_ratio-shares tax row.shares pages row.active) h

-- the row whose price is offered
pub revocable_at : (tax : Tax) (rows : List Row) (k : ℕ) (ratio : Ratio) → offer_at (revocable_ratios tax rows) k ≡ Some ratio → (row : Row) × (slice_get rows k ≡ Some row) × (row.min < row.target) × (ratio_with tax row row.target ≡ ratio)
revocable_at tax rows k ratio e =
    let there = offered_row (revocable_ratio tax) rows k ratio e in
    let is = cond_some (nat_lt there.0.min there.0.target) (ratio_with tax there.0 there.0.target) ratio there.2 in
    (there.0, there.1, ltb-true _ _ is.0, is.1)

pub taking_at : (tax : Tax) (rows : List Row) (k : ℕ) (ratio : Ratio) → offer_at (taking_ratios tax rows) k ≡ Some ratio → (row : Row) × (slice_get rows k ≡ Some row) × (0 < row.demand) × (row.target < row.cap) × (ratio_with tax row (row.target + 1) ≡ ratio)
taking_at tax rows k ratio e =
    let there = offered_row (taking_ratio tax) rows k ratio e in
    let is = cond_some (nat_lt 0 there.0.demand && nat_lt there.0.target there.0.cap) (ratio_with tax there.0 (there.0.target + 1)) ratio there.2 in
    let tests = both _ _ is.0 in
    (there.0, there.1, ltb-true _ _ tests.0, ltb-true _ _ tests.1, is.1)

-- who could give on its side can give, and who would take would
pub can_give : (tax : Tax) (rows own : List Row) (k : ℕ) (ratio : Ratio) → AreOwn tax rows own → offer_at (revocable_ratios tax own) k ≡ Some ratio → IsSomeAnd (slice_get rows k) (λ row. row.min < row.target)
can_give tax rows own k ratio are e =
    let there = revocable_at tax own k ratio e in
    ⊎_elim
    (λ same. subst (λ (o : Option Row). IsSomeAnd o (λ row. row.min < row.target)) (sym (same ∙ there.1)) there.2)
    (λ took.
    let row = took.1.row in
    let is = same_Some there.0 row (sym there.1 ∙ took.1.before) in
    let above = subst (λ (r : Row). r.min < r.target) is there.2 in
    let more : row.min < row.target + took.1.count = omega (arith, above) in
    subst (λ (o : Option Row). IsSomeAnd o (λ row. row.min < row.target)) (sym took.1.after) more)
    (are k)

pub would_take : (tax : Tax) (rows grown : List Row) (k : ℕ) (ratio : Ratio) → AreGrown tax rows grown → offer_at (taking_ratios tax grown) k ≡ Some ratio → IsSomeAnd (slice_get rows k) (λ row. (0 < row.demand) × (row.target < row.cap))
would_take tax rows grown k ratio are e =
    let there = taking_at tax grown k ratio e in
    ⊎_elim
    (λ same. subst (λ (o : Option Row). IsSomeAnd o (λ row. (0 < row.demand) × (row.target < row.cap))) (sym (same ∙ there.1)) (there.2, there.3))
    (λ gave.
    let row = gave.1.row in
    let is = same_Some there.0 row (sym there.1 ∙ gave.1.before) in
    let demand = subst (λ (r : Row). 0 < r.demand) is there.2 in
    let room = subst (λ (r : Row). r.target < r.cap) is there.3 in
    let less : row.target - gave.1.count < row.cap = omega (arith, room) in
    subst (λ (o : Option Row). IsSomeAnd o (λ row. (0 < row.demand) × (row.target < row.cap))) (sym gave.1.after) (demand, less))
    (are k)

gives_price : (tax : Tax) (rows : List Row) (k : ℕ) (row : Row) → slice_get rows k ≡ Some row → row.min < row.target → offer_at (revocable_ratios tax rows) k ≡ Some (ratio_with tax row row.target)
gives_price tax rows k row at above =
    let test : nat_lt row.min row.target ≡ true = lt-ltb row.min row.target above in
    let offered : revocable_ratio tax row ≡ Some (ratio_with tax row row.target) = rw test refl in
    offer_of (revocable_ratio tax) rows k row at ∙ offered

pub takes_price : (tax : Tax) (rows : List Row) (k : ℕ) (row : Row) → slice_get rows k ≡ Some row → 0 < row.demand → row.target < row.cap → offer_at (taking_ratios tax rows) k ≡ Some (ratio_with tax row (row.target + 1))
takes_price tax rows k row at demand room =
    let wants : nat_lt 0 row.demand ≡ true = lt-ltb 0 row.demand demand in
    let below : nat_lt row.target row.cap ≡ true = lt-ltb row.target row.cap room in
    let offered : taking_ratio tax row ≡ Some (ratio_with tax row (row.target + 1)) = rw (wants, below) refl in
    offer_of (taking_ratio tax) rows k row at ∙ offered

-- a keeper's price is above what is paid, and a sparer would pay less than the price
keeper_above : (tax : Tax) (rows : List Row) (k taker : ℕ) (that pay : Ratio) → Keeps tax rows k → offer_at (revocable_ratios tax rows) k ≡ Some that → offer_at (taking_ratios tax rows) taker ≡ Some pay → IsAtMost pay that
keeper_above tax rows k taker that pay keeps e f =
    let there = revocable_at tax rows k that e in
    let high = subst (λ (r : Ratio). IsAtMost keeps.cap r) there.3 (subst (λ (o : Option Row). IsSomeAnd o (λ row. IsAtMost keeps.cap (ratio_with tax row row.target))) there.1 keeps.high) in
    at_most_chain pay keeps.cap that keeps.some (keeps.caps taker pay f) high

sparer_below : (tax : Tax) (rows : List Row) (k giver : ℕ) (that price : Ratio) → Spares tax rows k → offer_at (taking_ratios tax rows) k ≡ Some that → offer_at (revocable_ratios tax rows) giver ≡ Some price → IsAtMost that price
sparer_below tax rows k giver that price spares e f =
    let there = taking_at tax rows k that e in
    let low = subst (λ (r : Ratio). IsAtMost r spares.floor) there.4 (subst (λ (o : Option Row). IsSomeAnd o (λ row. IsAtMost (ratio_with tax row (row.target + 1)) spares.floor)) there.1 spares.low) in
    at_most_chain that spares.floor price spares.some low (spares.floors giver price f)

pub transfer_from_sides : (tax : Tax) (rows own grown : List Row) (giver taker : ℕ) → HaveShares rows → AreOwn tax rows own → AreGrown tax rows grown
    → IsLeast (revocable_ratios tax own) giver → IsGreatest (taking_ratios tax grown) taker → Pays tax rows giver taker → IsTransfer tax rows giver taker
transfer_from_sides tax rows own grown giver taker h are_own are_grown least most pays =
    let from = pays.from in
    let to = pays.to in
    let at = pays.from_at in
    let at' = pays.to_at in
    let price = ratio_with tax from from.target in
    let pay = ratio_with tax to (to.target + 1) in
    let above = subst (λ (o : Option Row). IsSomeAnd o (λ row. row.min < row.target)) at (can_give tax rows own giver least.ratio are_own least.here) in
    let wants = subst (λ (o : Option Row). IsSomeAnd o (λ row. (0 < row.demand) × (row.target < row.cap))) at' (would_take tax rows grown taker most.ratio are_grown most.here) in
    let gives = gives_price tax rows giver from at above in
    let takes = takes_price tax rows taker to at' wants.0 wants.1 in
    let own_same : slice_get rows giver ≡ slice_get own giver = ⊎_elim (λ same. same) (λ took. absurd (not_less pay price (keeper_above tax rows giver taker price pay took.0 gives takes) pays.more)) (are_own giver) in
    let grown_same : slice_get rows taker ≡ slice_get grown taker = ⊎_elim (λ same. same) (λ gave. absurd (not_less pay price (sparer_below tax rows taker giver pay price gave.0 takes gives) pays.more)) (are_grown taker) in
    let mine = same_Some least.ratio price (sym least.here ∙ sym (same_offer (revocable_ratio tax) rows own giver own_same) ∙ gives) in
    let mine' = same_Some most.ratio pay (sym most.here ∙ sym (same_offer (taking_ratio tax) rows grown taker grown_same) ∙ takes) in
    record {
      least = record {
        ratio = price;
        here = gives;
        before_others = λ k that e ne. ⊎_elim
            (λ same. subst (λ (r : Ratio). IsBelow r giver that k) mine (least.before_others k that (sym (same_offer (revocable_ratio tax) rows own k same) ∙ e) ne))
            (λ took. inl (less_then_most price pay that (revocable-have_shares tax rows h k that e) pays.more (keeper_above tax rows k taker that pay took.0 e takes)))
            (are_own k);
      };
      most = record {
        ratio = pay;
        here = takes;
        before_others = λ k that e ne. ⊎_elim
            (λ same. subst (λ (r : Ratio). IsAbove r taker that k) mine' (most.before_others k that (sym (same_offer (taking_ratio tax) rows grown k same) ∙ e) ne))
            (λ gave. inl (most_then_less that price pay (taking-have_shares tax rows h k that e) (sparer_below tax rows k giver that price gave.0 e gives) pays.more))
            (are_grown k);
      };
      pays_more = pays.more;
      stays = pays.stays;
    }

pub giver_on_side : (tax : Tax) (rows own : List Row) (giver taker : ℕ) → HaveShares rows → AreOwn tax rows own → IsTransfer tax rows giver taker → IsLeast (revocable_ratios tax own) giver
giver_on_side tax rows own giver taker h are t = record {
  ratio = t.least.ratio;
  here = sym (same_offer (revocable_ratio tax) rows own giver (own_giver tax rows own giver taker h t are)) ∙ t.least.here;
  before_others = λ k that e ne. ⊎_elim
      (λ same. t.least.before_others k that (same_offer (revocable_ratio tax) rows own k same ∙ e) ne)
      (λ took.
      let there = revocable_at tax own k that e in
      let row = took.1.row in
      let count = took.1.count in
      let is = same_Some there.0 row (sym there.1 ∙ took.1.before) in
      let mine = subst (λ (r : Row). ratio_with tax r r.target ≡ that) is there.3 in
      let some : 1 ≤ row.shares = shares_at rows k (raised_row count row) h took.1.after in
      let high : IsAtMost took.0.cap (ratio_with tax row (row.target + count)) = subst (λ (o : Option Row). IsSomeAnd o (λ row. IsAtMost took.0.cap (ratio_with tax row row.target))) took.1.after took.0.high in
      let pay = at_most_chain t.most.ratio took.0.cap (ratio_with tax row (row.target + count)) took.0.some (took.0.caps taker t.most.ratio t.most.here) high in
      let most = at_most_chain t.most.ratio (ratio_with tax row (row.target + count)) (ratio_with tax row row.target) (price_has_shares tax row (row.target + count) some) pay (price_falls tax row row.target (row.target + count) (omega arith)) in
      let less = less_then_most t.least.ratio t.most.ratio (ratio_with tax row row.target) (price_has_shares tax row row.target some) t.pays_more most in
      inl (subst (λ (r : Ratio). IsLess t.least.ratio r) mine less))
      (are k);
}

pub taker_on_side : (tax : Tax) (rows grown : List Row) (giver taker : ℕ) → HaveShares rows → AreGrown tax rows grown → IsTransfer tax rows giver taker → IsGreatest (taking_ratios tax grown) taker
taker_on_side tax rows grown giver taker h are t = record {
  ratio = t.most.ratio;
  here = sym (same_offer (taking_ratio tax) rows grown taker (grown_taker tax rows grown giver taker h t are)) ∙ t.most.here;
  before_others = λ k that e ne. ⊎_elim
      (λ same. t.most.before_others k that (same_offer (taking_ratio tax) rows grown k same ∙ e) ne)
      (λ gave.
      let there = taking_at tax grown k that e in
      let row = gave.1.row in
      let count = gave.1.count in
      let is = same_Some there.0 row (sym there.1 ∙ gave.1.before) in
      let mine = subst (λ (r : Row). ratio_with tax r (r.target + 1) ≡ that) is there.4 in
      let some : 1 ≤ row.shares = shares_at rows k (lowered_row count row) h gave.1.after in
      let low : IsAtMost (ratio_with tax row ((row.target - count) + 1)) gave.0.floor = subst (λ (o : Option Row). IsSomeAnd o (λ row. IsAtMost (ratio_with tax row (row.target + 1)) gave.0.floor)) gave.1.after gave.0.low in
      let pay = at_most_chain (ratio_with tax row ((row.target - count) + 1)) gave.0.floor t.least.ratio gave.0.some low (gave.0.floors giver t.least.ratio t.least.here) in
      let most = at_most_chain (ratio_with tax row (row.target + 1)) (ratio_with tax row ((row.target - count) + 1)) t.least.ratio (price_has_shares tax row ((row.target - count) + 1) some) (price_falls tax row ((row.target - count) + 1) (row.target + 1) (omega arith)) pay in
      let less = most_then_less (ratio_with tax row (row.target + 1)) t.least.ratio t.most.ratio (price_has_shares tax row (row.target + 1) some) most t.pays_more in
      inl (subst (λ (r : Ratio). IsLess r t.most.ratio) mine less))
      (are k);
}

pub pays_of : (tax : Tax) (rows : List Row) (giver taker : ℕ) → IsTransfer tax rows giver taker → Pays tax rows giver taker
pays_of tax rows giver taker t =
    let p = parties tax rows giver taker t in
    record {
      from = p.from;
      to = p.to;
      from_at = p.from_at;
      to_at = p.to_at;
      more = subst (λ (r : Ratio). IsLess r (ratio_with tax p.to (p.to.target + 1))) (sym p.price) (subst (λ (r : Ratio). IsLess t.least.ratio r) (sym p.pays) t.pays_more);
      stays = t.stays;
    }

-- ---- prices that follow a side

pub side_within : {kind : Kind} {tax : ℕ} {prices : List (Option Price)} (rows : List PlanRow) (k : ℕ) → IsSideAt kind tax prices (rows_of rows) k → k < length rows → k < length prices
side_within {kind} {tax} {prices} rows k s l =
    let wide = length-map rows row_of in
    let long : length prices ≡ length s.side = sym (length-map prices (option_map ratio_of)) ∙ ap length s.tracked.ratios ∙ length-map s.side (ratio_in kind (hundredths tax)) in
    ⊎_elim
    (λ here. let there = slice_get_within s.side k here.0 (s.same ∙ here.2) in omega (arith, long, there))
    (λ past. let short = past.0 in absurd (omega (arith, short, wide, l)))
    (slice_get_cases (rows_of rows) k).1

pub side_one_tax : {kind : Kind} {tax : ℕ} {prices : List (Option Price)} {rows : List Row} (k : ℕ) (offer : Option Price) (row : Row) → IsSideAt kind tax prices rows k
    → option_map ratio_of offer ≡ ratio_in kind (hundredths tax) row → IfSome offer (λ p. p.tax ≡ tax) → HaveOneTax (slice_set prices k offer)
side_one_tax {kind} {tax} {prices} {rows} k offer row s e taxed = tracked-one_tax (tracked-set kind tax prices s.side k offer row s.tracked e taxed)

pub side_set : (kind : Kind) (tax : ℕ) (change : Row → Row) (prices new : List (Option Price)) (side : List Row) (rows : List PlanRow) (k : ℕ) (r : PlanRow) (offer : Option Price) → k < length rows → r ≡ get_or rows k r
    → slice_get side k ≡ slice_get (rows_of rows) k → IsTracked kind tax prices side → option_map ratio_of offer ≡ ratio_in kind (hundredths tax) (change (row_of r)) → IfSome offer (λ p. p.tax ≡ tax)
    → new ≡ slice_set prices k offer → IsTracked kind tax new (change_at change side k)
side_set kind tax change prices new side rows k r offer l is same t e taxed set =
    let at = same ∙ row_at rows k r l is in
    let changed : change_at change side k ≡ slice_set side k (change (row_of r)) = ap (λ (o : Option Row). option_map_or (λ row. slice_set side k (change row)) o side) at in
    subst (λ (xs : List Row). IsTracked kind tax new xs) (sym changed) (subst (λ (xs : List (Option Price)). IsTracked kind tax xs (slice_set side k (change (row_of r)))) (sym set) (tracked-set kind tax prices side k offer (change (row_of r)) t e taxed))

-- whether it pays, from what it would pay and what would come back
pub pays_not : (tax : Tax) (rows : List Row) (giver taker : ℕ) (from to : Row) → slice_get rows giver ≡ Some from → slice_get rows taker ≡ Some to → ¬ IsLess (ratio_with tax from from.target) (ratio_with tax to (to.target + 1)) → ¬ Pays tax rows giver taker
pays_not tax rows giver taker from to at at' less p =
    let gives = same_Some p.from from (sym p.from_at ∙ at) in
    let takes = same_Some p.to to (sym p.to_at ∙ at') in
    let more = subst (λ (row : Row). IsLess (ratio_with tax p.from p.from.target) (ratio_with tax row (row.target + 1))) takes p.more in
    less (subst (λ (row : Row). IsLess (ratio_with tax row row.target) (ratio_with tax to (to.target + 1))) gives more)
