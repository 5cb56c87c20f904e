-- A page that goes from one guest to another: who they are, and what guests offer then.
use Rattle.std.proofs.Common.{◌≡◌, ◌≢◌, ℕ, ◌+◌, ◌<◌, ◌≤◌, nat_lt, ◌&&◌, List, Option, Some, slice_get, inl, inr, ⊎_elim, sym, refl, ap, ◌∙◌, subst, arith}
use Rattle.std.specs.Option.{option_map_or}
use Rattle.std.proofs.lemmas.Bool.{cases_eq, ltb-true}
use Rattle.std.proofs.lemmas.Option.{cond_some, same_Some}
use Rattle.std.proofs.Math.Nat.{mul-le-mul_left, mul-le-mul_right}
use Rattle.vm_tax.specs.Ratio.{Ratio, Tax, IsLess, IsAbove, IsBelow, adjusted_ratio, weight_of}
use Rattle.vm_tax.specs.Offers.{offer_at, IsLeast, IsGreatest}
use Rattle.vm_tax.proofs.Fractions.{at_most-chain}
use Rattle.vm_tax.proofs.OfferLemmas.{greatest_position-from}
use Rattle.vm_plan.specs.Row.{Row, HaveShares, ratio_with, revocable_ratio, revocable_ratios, change_at}
use Rattle.vm_plan.specs.Revocation.{revoked_row}
use Rattle.vm_plan.specs.Rebalancing.{taking_ratio, taking_ratios, taken_row, transferred, given_by, IsTransfer}
use Rattle.vm_plan.specs.Sides.{IsAtMost}
use Rattle.vm_plan.proofs.ChangeLemmas.{row_changed, row_unchanged}
use Rattle.vm_plan.proofs.GrantLemmas.{both}
use Rattle.vm_plan.proofs.ListLemmas.{change-have_shares}
use Rattle.vm_plan.proofs.Places.{offered_row}
use Rattle.vm_plan.proofs.RowLemmas.{taking-have_shares}

-- ---- the order of prices

pub at_most_itself : (a : Ratio) → IsAtMost a a
at_most_itself a = omega arith

pub at_most_less : (a b : Ratio) → IsLess a b → IsAtMost a b
at_most_less a b l = omega (arith, l)

pub not_less : (a b : Ratio) → IsAtMost a b → ¬ IsLess b a
not_less a b most less = omega (arith, most, less)

pub at_most_chain : (a b c : Ratio) → 0 < b.shares → IsAtMost a b → IsAtMost b c → IsAtMost a c
at_most_chain a b c some l m = at_most-chain a.shares a.weighted_pages b.shares b.weighted_pages c.shares c.weighted_pages some l m

above_at_most : (a : Ratio) (i : ℕ) (b : Ratio) (j : ℕ) → IsAbove a i b j → IsAtMost b a
above_at_most a i b j (inl l) = omega (arith, l)
above_at_most a i b j (inr e) = let same = e.0 in omega (arith, same)

below_at_most : (a : Ratio) (i : ℕ) (b : Ratio) (j : ℕ) → IsBelow a i b j → IsAtMost a b
below_at_most a i b j (inl l) = omega (arith, l)
below_at_most a i b j (inr e) = let same = e.0 in omega (arith, same)

-- more pages, no greater price
pub price_falls : (tax : Tax) (row : Row) (few many : ℕ) → few ≤ many → IsAtMost (ratio_with tax row many) (ratio_with tax row few)
unfolding adjusted_ratio
price_falls tax row few many l = mul-le-mul_left row.shares (mul-le-mul_right (weight_of tax row.active) l)

-- nothing is offered above the greatest, and nothing below the least
pub most_caps : (offers : List (Option Ratio)) (p k : ℕ) (that : Ratio) → (f : IsGreatest offers p) → offer_at offers k ≡ Some that → IsAtMost that f.ratio
most_caps offers p k that f e =
    ⊎_elim
    (λ (same : k ≡ p).
    let there = subst (λ (n : ℕ). offer_at offers n ≡ Some that) same e in
    subst (λ (r : Ratio). IsAtMost that r) (same_Some that f.ratio (sym there ∙ f.here)) (at_most_itself that))
    (λ (ne : k ≢ p). above_at_most f.ratio p that k (f.before_others k that e ne))
    (cases_eq k p)

pub least_floors : (offers : List (Option Ratio)) (p k : ℕ) (that : Ratio) → (f : IsLeast offers p) → offer_at offers k ≡ Some that → IsAtMost f.ratio that
least_floors offers p k that f e =
    ⊎_elim
    (λ (same : k ≡ p).
    let there = subst (λ (n : ℕ). offer_at offers n ≡ Some that) same e in
    subst (λ (r : Ratio). IsAtMost r that) (same_Some that f.ratio (sym there ∙ f.here)) (at_most_itself that))
    (λ (ne : k ≢ p). below_at_most f.ratio p that k (f.before_others k that e ne))
    (cases_eq k p)

-- ---- the two guests

pub record Parties (tax : Tax) (rows : List Row) (giver taker : ℕ) (least most : Ratio) : Type 0 where
  pub from : Row
  pub to : Row
  pub from_at : slice_get rows giver ≡ Some from
  pub to_at : slice_get rows taker ≡ Some to
  pub above : from.min < from.target
  pub demand : 0 < to.demand
  pub room : to.target < to.cap
  pub price : ratio_with tax from from.target ≡ least
  pub pays : ratio_with tax to (to.target + 1) ≡ most

pub parties_of : (tax : Tax) (rows : List Row) (giver taker : ℕ) (least most : Ratio) → offer_at (revocable_ratios tax rows) giver ≡ Some least → offer_at (taking_ratios tax rows) taker ≡ Some most
    → Parties tax rows giver taker least most
parties_of tax rows giver taker least most e f =
    let gives = offered_row (revocable_ratio tax) rows giver least e in
    let takes = offered_row (taking_ratio tax) rows taker most f in
    let above = cond_some (nat_lt gives.0.min gives.0.target) (ratio_with tax gives.0 gives.0.target) least gives.2 in
    let wants = cond_some (nat_lt 0 takes.0.demand && nat_lt takes.0.target takes.0.cap) (ratio_with tax takes.0 (takes.0.target + 1)) most takes.2 in
    let tests = both _ _ wants.0 in
    record {
      from = gives.0;
      to = takes.0;
      from_at = gives.1;
      to_at = takes.1;
      above = ltb-true _ _ above.0;
      demand = ltb-true _ _ tests.0;
      room = ltb-true _ _ tests.1;
      price = above.1;
      pays = wants.1;
    }

pub parties : (tax : Tax) (rows : List Row) (giver taker : ℕ) → (t : IsTransfer tax rows giver taker) → Parties tax rows giver taker t.least.ratio t.most.ratio
parties tax rows giver taker t = parties_of tax rows giver taker t.least.ratio t.most.ratio t.least.here t.most.here

-- they are two: nobody pays more with a page more
pub two_parties : (tax : Tax) (rows : List Row) (giver taker : ℕ) → IsTransfer tax rows giver taker → giver ≢ taker
two_parties tax rows giver taker t same =
    let p = parties tax rows giver taker t in
    let here = subst (λ (k : ℕ). slice_get rows k ≡ Some p.from) same p.from_at in
    let one : p.to ≡ p.from = same_Some p.to p.from (sym p.to_at ∙ here) in
    let pays = subst (λ (row : Row). ratio_with tax row (row.target + 1) ≡ t.most.ratio) one p.pays in
    let falls = price_falls tax p.from p.from.target (p.from.target + 1) (omega arith) in
    let most = subst (λ (r : Ratio). IsAtMost r (ratio_with tax p.from p.from.target)) pays falls in
    not_less t.most.ratio t.least.ratio (subst (λ (r : Ratio). IsAtMost t.most.ratio r) p.price most) t.pays_more

-- ---- the rows after it

pub given_is : (tax : Tax) (rows : List Row) (giver taker : ℕ) → HaveShares rows → IsTransfer tax rows giver taker → given_by tax rows giver ≡ transferred rows giver taker
given_is tax rows giver taker h t =
    ap (λ (o : Option ℕ). option_map_or (transferred rows giver) o rows) (greatest_position-from (taking_ratios tax rows) taker (taking-have_shares tax rows h) t.most)

pub transferred-have_shares : (rows : List Row) (giver taker : ℕ) → HaveShares rows → HaveShares (transferred rows giver taker)
transferred-have_shares rows giver taker h = change-have_shares taken_row (λ row. refl) (change_at revoked_row rows giver) taker (change-have_shares revoked_row (λ row. refl) rows giver h)

pub giver_after : (rows : List Row) (giver taker : ℕ) (row : Row) → giver ≢ taker → slice_get rows giver ≡ Some row → slice_get (transferred rows giver taker) giver ≡ Some (revoked_row row)
giver_after rows giver taker row ne at = row_unchanged taken_row (change_at revoked_row rows giver) taker giver ne ∙ row_changed revoked_row rows giver row at

pub taker_after : (rows : List Row) (giver taker : ℕ) (row : Row) → giver ≢ taker → slice_get rows taker ≡ Some row → slice_get (transferred rows giver taker) taker ≡ Some (taken_row row)
taker_after rows giver taker row ne at =
    row_changed taken_row (change_at revoked_row rows giver) taker row (row_unchanged revoked_row rows giver taker (λ e. ne (sym e)) ∙ at)

pub other_after : (rows : List Row) (giver taker other : ℕ) → other ≢ giver → other ≢ taker → slice_get (transferred rows giver taker) other ≡ slice_get rows other
other_after rows giver taker other ne ne' = row_unchanged taken_row (change_at revoked_row rows giver) taker other ne' ∙ row_unchanged revoked_row rows giver other ne
