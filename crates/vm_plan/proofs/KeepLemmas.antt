-- What is paid for a page never rises in a rebalancing, the least price never falls, and who takes keeps what it took.
use Rattle.std.proofs.Common.{◌≡◌, ◌≢◌, ℕ, zero, suc, ◌+◌, ◌-◌, ◌<◌, ◌≤◌, ◌⊎◌, nat_lt, ◌&&◌, List, [], ◌∷◌, Option, Some, IsSomeAnd, length, take, slice_get, slice_index, inl, inr, ⊎_elim, sym, refl, ap, ◌∙◌, subst, arith}
use Rattle.std.proofs.lemmas.Bool.{cases_eq}
use Rattle.std.proofs.lemmas.Option.{cond_some, same_Some}
use Rattle.vm_tax.specs.Ratio.{Ratio, Tax}
use Rattle.vm_tax.specs.Offers.{offer_at}
use Rattle.vm_tax.proofs.OfferLemmas.{greatest_position-from}
use Rattle.vm_plan.specs.Row.{Row, HaveShares, ratio_with, revocable_ratio, revocable_ratios, change_at}
use Rattle.vm_plan.specs.Revocation.{revoked_row, rows_after, IsRevocable}
use Rattle.vm_plan.specs.Rebalancing.{taking_ratio, taking_ratios, taken_row, transferred, given_by, rows_given, IsTransfer, IsNextGiver, TakersKeep, MostFalls, LeastRises}
use Rattle.vm_plan.specs.Moves.{EachMove}
use Rattle.vm_plan.specs.Sides.{IsAtMost, Caps, Floors, Keeps}
use Rattle.vm_plan.proofs.ChangeLemmas.{offer_of, row_changed, row_unchanged, same_offer}
use Rattle.vm_plan.proofs.Places.{revocable_row}
use Rattle.vm_plan.proofs.RowLemmas.{taking-have_shares, revocable-have_shares}
use Rattle.vm_plan.proofs.TransferLemmas.{at_most_itself, at_most_less, not_less, at_most_chain, price_falls, most_caps, least_floors, parties, two_parties, given_is, transferred-have_shares, giver_after, taker_after, other_after}

-- ---- a transfer keeps these

caps_after : (tax : Tax) (cap : Ratio) (rows : List Row) (giver taker : ℕ) → HaveShares rows → IsTransfer tax rows giver taker → Caps tax cap rows → Caps tax cap (transferred rows giver taker)
caps_after tax cap rows giver taker h t caps k that e =
    let p = parties tax rows giver taker t in
    let two = two_parties tax rows giver taker t in
    let most = caps taker t.most.ratio t.most.here in
    let some = taking-have_shares tax rows h taker t.most.ratio t.most.here in
    ⊎_elim
    (λ (same : k ≡ taker).
    let there = sym (offer_of (taking_ratio tax) (transferred rows giver taker) taker (taken_row p.to) (taker_after rows giver taker p.to two p.to_at)) ∙ subst (λ (n : ℕ). offer_at (taking_ratios tax (transferred rows giver taker)) n ≡ Some that) same e in
    let is = (cond_some (nat_lt 0 (p.to.demand - 1) && nat_lt (p.to.target + 1) p.to.cap) (ratio_with tax p.to ((p.to.target + 1) + 1)) that there).1 in
    let falls = subst (λ (r : Ratio). IsAtMost (ratio_with tax p.to ((p.to.target + 1) + 1)) r) p.pays (price_falls tax p.to (p.to.target + 1) ((p.to.target + 1) + 1) (omega arith)) in
    at_most_chain that t.most.ratio cap some (subst (λ (r : Ratio). IsAtMost r t.most.ratio) is falls) most)
    (λ (ne : k ≢ taker). ⊎_elim
    (λ (same : k ≡ giver).
    let there = sym (offer_of (taking_ratio tax) (transferred rows giver taker) giver (revoked_row p.from) (giver_after rows giver taker p.from two p.from_at)) ∙ subst (λ (n : ℕ). offer_at (taking_ratios tax (transferred rows giver taker)) n ≡ Some that) same e in
    let is = (cond_some (nat_lt 0 p.from.demand && nat_lt (p.from.target - 1) p.from.cap) (ratio_with tax p.from ((p.from.target - 1) + 1)) that there).1 in
    let pages : (p.from.target - 1) + 1 ≡ p.from.target = let above = p.above in omega (arith, above) in
    let mine = sym (ap (ratio_with tax p.from) pages ∙ p.price) ∙ is in
    at_most_chain that t.most.ratio cap some (subst (λ (r : Ratio). IsAtMost r t.most.ratio) mine (at_most_less t.least.ratio t.most.ratio t.pays_more)) most)
    (λ (ne' : k ≢ giver). caps k that (sym (same_offer (taking_ratio tax) (transferred rows giver taker) rows k (other_after rows giver taker k ne' ne)) ∙ e))
    (cases_eq k giver))
    (cases_eq k taker)

pub floors_after : (tax : Tax) (floor : Ratio) (rows : List Row) (giver taker : ℕ) → HaveShares rows → IsTransfer tax rows giver taker → Floors tax floor rows → Floors tax floor (transferred rows giver taker)
floors_after tax floor rows giver taker h t floors k that e =
    let p = parties tax rows giver taker t in
    let two = two_parties tax rows giver taker t in
    let least = floors giver t.least.ratio t.least.here in
    let some = revocable-have_shares tax rows h giver t.least.ratio t.least.here in
    ⊎_elim
    (λ (same : k ≡ taker).
    let there = sym (offer_of (revocable_ratio tax) (transferred rows giver taker) taker (taken_row p.to) (taker_after rows giver taker p.to two p.to_at)) ∙ subst (λ (n : ℕ). offer_at (revocable_ratios tax (transferred rows giver taker)) n ≡ Some that) same e in
    let is = (cond_some (nat_lt p.to.min (p.to.target + 1)) (ratio_with tax p.to (p.to.target + 1)) that there).1 in
    at_most_chain floor t.least.ratio that some least (subst (λ (r : Ratio). IsAtMost t.least.ratio r) (sym p.pays ∙ is) (at_most_less t.least.ratio t.most.ratio t.pays_more)))
    (λ (ne : k ≢ taker). ⊎_elim
    (λ (same : k ≡ giver).
    let there = sym (offer_of (revocable_ratio tax) (transferred rows giver taker) giver (revoked_row p.from) (giver_after rows giver taker p.from two p.from_at)) ∙ subst (λ (n : ℕ). offer_at (revocable_ratios tax (transferred rows giver taker)) n ≡ Some that) same e in
    let is = (cond_some (nat_lt p.from.min (p.from.target - 1)) (ratio_with tax p.from (p.from.target - 1)) that there).1 in
    let falls = subst (λ (r : Ratio). IsAtMost r (ratio_with tax p.from (p.from.target - 1))) p.price (price_falls tax p.from (p.from.target - 1) p.from.target (omega arith)) in
    at_most_chain floor t.least.ratio that some least (subst (λ (r : Ratio). IsAtMost t.least.ratio r) is falls))
    (λ (ne' : k ≢ giver). floors k that (sym (same_offer (revocable_ratio tax) (transferred rows giver taker) rows k (other_after rows giver taker k ne' ne)) ∙ e))
    (cases_eq k giver))
    (cases_eq k taker)

-- ---- a guest that took

-- a guest whose price nobody pays more than gives nothing
pub keeper_gives_none : (tax : Tax) (rows : List Row) (giver taker : ℕ) → HaveShares rows → IsTransfer tax rows giver taker → Keeps tax rows giver → ⊥
keeper_gives_none tax rows giver taker h t keeps =
    let p = parties tax rows giver taker t in
    let high = subst (λ (r : Ratio). IsAtMost keeps.cap r) p.price (subst (λ (o : Option Row). IsSomeAnd o (λ row. IsAtMost keeps.cap (ratio_with tax row row.target))) p.from_at keeps.high) in
    not_less t.most.ratio t.least.ratio (at_most_chain t.most.ratio keeps.cap t.least.ratio keeps.some (keeps.caps taker t.most.ratio t.most.here) high) t.pays_more

pub taker_keeps : (tax : Tax) (rows : List Row) (giver taker : ℕ) → HaveShares rows → IsTransfer tax rows giver taker → Keeps tax (transferred rows giver taker) taker
taker_keeps tax rows giver taker h t =
    let p = parties tax rows giver taker t in
    let after = taker_after rows giver taker p.to (two_parties tax rows giver taker t) p.to_at in
    record {
      cap = t.most.ratio;
      some = taking-have_shares tax rows h taker t.most.ratio t.most.here;
      caps = caps_after tax t.most.ratio rows giver taker h t (λ k that e. most_caps (taking_ratios tax rows) taker k that t.most e);
      high = subst (λ (o : Option Row). IsSomeAnd o (λ row. IsAtMost t.most.ratio (ratio_with tax row row.target))) (sym after) (subst (λ (r : Ratio). IsAtMost t.most.ratio r) (sym p.pays) (at_most_itself t.most.ratio));
    }

pub keeper_keeps : (tax : Tax) (rows : List Row) (giver taker guest : ℕ) → HaveShares rows → IsTransfer tax rows giver taker → Keeps tax rows guest → Keeps tax (transferred rows giver taker) guest
keeper_keeps tax rows giver taker guest h t keeps =
    ⊎_elim
    (λ (same : guest ≡ taker). subst (λ (k : ℕ). Keeps tax (transferred rows giver taker) k) (sym same) (taker_keeps tax rows giver taker h t))
    (λ (ne : guest ≢ taker).
    let ne' : guest ≢ giver = λ same. keeper_gives_none tax rows giver taker h t (subst (λ (k : ℕ). Keeps tax rows k) same keeps) in
    record {
      cap = keeps.cap;
      some = keeps.some;
      caps = caps_after tax keeps.cap rows giver taker h t keeps.caps;
      high = subst (λ (o : Option Row). IsSomeAnd o (λ row. IsAtMost keeps.cap (ratio_with tax row row.target))) (sym (other_after rows giver taker guest ne' ne)) keeps.high;
    })
    (cases_eq guest taker)

-- ---- in a whole list

abbrev pub Each : Tax → List Row → List ℕ → Type 0
Each tax rows givers = EachMove (λ before giver. IsNextGiver tax (rows_given tax rows before) giver) givers

pub each_after : (tax : Tax) (rows : List Row) (giver : ℕ) (givers : List ℕ) → Each tax rows (giver ∷ givers) → Each tax (given_by tax rows giver) givers
each_after tax rows giver givers each i l = each (suc i) (omega arith)

pub first_of : (tax : Tax) (rows : List Row) (giver : ℕ) (givers : List ℕ) → Each tax rows (giver ∷ givers) → IsNextGiver tax rows giver
first_of tax rows giver givers each = each zero (omega arith)

pub given-have_shares : (tax : Tax) (rows : List Row) (giver taker : ℕ) → HaveShares rows → IsTransfer tax rows giver taker → HaveShares (given_by tax rows giver)
given-have_shares tax rows giver taker h t = subst (λ (xs : List Row). HaveShares xs) (sym (given_is tax rows giver taker h t)) (transferred-have_shares rows giver taker h)

keeper_never_gives : (tax : Tax) (rows : List Row) (guest : ℕ) (givers : List ℕ) → HaveShares rows → Keeps tax rows guest → Each tax rows givers → (j : ℕ) → j < length givers → guest ≢ slice_index givers j
keeper_never_gives tax rows guest [] h keeps each j l same = absurd (omega arith)
keeper_never_gives tax rows guest (giver ∷ givers) h keeps each zero l same =
    let next = first_of tax rows giver givers each in
    keeper_gives_none tax rows giver next.0 h next.1 (subst (λ (k : ℕ). Keeps tax rows k) same keeps)
keeper_never_gives tax rows guest (giver ∷ givers) h keeps each (suc j) l same =
    let next = first_of tax rows giver givers each in
    let after = sym (given_is tax rows giver next.0 h next.1) in
    keeper_never_gives tax (given_by tax rows giver) guest givers (given-have_shares tax rows giver next.0 h next.1)
    (subst (λ (xs : List Row). Keeps tax xs guest) after (keeper_keeps tax rows giver next.0 guest h next.1 keeps)) (each_after tax rows giver givers each) j (omega arith) same

pub takers_keep : (tax : Tax) (rows : List Row) (givers : List ℕ) → HaveShares rows → Each tax rows givers → TakersKeep tax rows givers
takers_keep tax rows [] h each i j l m e = absurd (omega arith)
takers_keep tax rows (giver ∷ givers) h each i zero l m e = absurd (omega arith)
takers_keep tax rows (giver ∷ givers) h each zero (suc j) l m e =
    let next = first_of tax rows giver givers each in
    let after = sym (given_is tax rows giver next.0 h next.1) in
    let taker = same_Some next.0 (slice_index givers j) (sym (greatest_position-from (taking_ratios tax rows) next.0 (taking-have_shares tax rows h) next.1.most) ∙ e) in
    keeper_never_gives tax (given_by tax rows giver) next.0 givers (given-have_shares tax rows giver next.0 h next.1)
    (subst (λ (xs : List Row). Keeps tax xs next.0) after (taker_keeps tax rows giver next.0 h next.1)) (each_after tax rows giver givers each) j (omega arith) taker
takers_keep tax rows (giver ∷ givers) h each (suc i) (suc j) l m e =
    let next = first_of tax rows giver givers each in
    takers_keep tax (given_by tax rows giver) givers (given-have_shares tax rows giver next.0 h next.1) (each_after tax rows giver givers each) i j (omega arith) (omega arith) e

caps_later : (tax : Tax) (cap : Ratio) (rows : List Row) (givers : List ℕ) → HaveShares rows → Each tax rows givers → Caps tax cap rows → (j : ℕ) → j ≤ length givers → Caps tax cap (rows_given tax rows (take j givers))
caps_later tax cap rows givers h each caps zero l = caps
caps_later tax cap rows [] h each caps (suc j) l = absurd (omega arith)
caps_later tax cap rows (giver ∷ givers) h each caps (suc j) l =
    let next = first_of tax rows giver givers each in
    let after = sym (given_is tax rows giver next.0 h next.1) in
    caps_later tax cap (given_by tax rows giver) givers (given-have_shares tax rows giver next.0 h next.1) (each_after tax rows giver givers each)
    (subst (λ (xs : List Row). Caps tax cap xs) after (caps_after tax cap rows giver next.0 h next.1 caps)) j (omega arith)

floors_later : (tax : Tax) (floor : Ratio) (rows : List Row) (givers : List ℕ) → HaveShares rows → Each tax rows givers → Floors tax floor rows → (j : ℕ) → j ≤ length givers → Floors tax floor (rows_given tax rows (take j givers))
floors_later tax floor rows givers h each floors zero l = floors
floors_later tax floor rows [] h each floors (suc j) l = absurd (omega arith)
floors_later tax floor rows (giver ∷ givers) h each floors (suc j) l =
    let next = first_of tax rows giver givers each in
    let after = sym (given_is tax rows giver next.0 h next.1) in
    floors_later tax floor (given_by tax rows giver) givers (given-have_shares tax rows giver next.0 h next.1) (each_after tax rows giver givers each)
    (subst (λ (xs : List Row). Floors tax floor xs) after (floors_after tax floor rows giver next.0 h next.1 floors)) j (omega arith)

pub most_falls : (tax : Tax) (rows : List Row) (givers : List ℕ) → HaveShares rows → Each tax rows givers → MostFalls tax rows givers
most_falls tax rows givers h each zero j p q l m early late =
    let caps = caps_later tax early.ratio rows givers h each (λ k that e. most_caps (taking_ratios tax rows) p k that early e) j m in
    not_less late.ratio early.ratio (caps q late.ratio late.here)
most_falls tax rows [] h each (suc i) j p q l m early late = absurd (omega arith)
most_falls tax rows (giver ∷ givers) h each (suc i) zero p q l m early late = absurd (omega arith)
most_falls tax rows (giver ∷ givers) h each (suc i) (suc j) p q l m early late =
    let next = first_of tax rows giver givers each in
    most_falls tax (given_by tax rows giver) givers (given-have_shares tax rows giver next.0 h next.1) (each_after tax rows giver givers each) i j p q (omega arith) (omega arith) early late

pub least_rises : (tax : Tax) (rows : List Row) (givers : List ℕ) → HaveShares rows → Each tax rows givers → LeastRises tax rows givers
least_rises tax rows givers h each zero j p q l m early late =
    let floors = floors_later tax early.ratio rows givers h each (λ k that e. least_floors (revocable_ratios tax rows) p k that early e) j m in
    not_less early.ratio late.ratio (floors q late.ratio late.here)
least_rises tax rows [] h each (suc i) j p q l m early late = absurd (omega arith)
least_rises tax rows (giver ∷ givers) h each (suc i) zero p q l m early late = absurd (omega arith)
least_rises tax rows (giver ∷ givers) h each (suc i) (suc j) p q l m early late =
    let next = first_of tax rows giver givers each in
    least_rises tax (given_by tax rows giver) givers (given-have_shares tax rows giver next.0 h next.1) (each_after tax rows giver givers each) i j p q (omega arith) (omega arith) early late

-- ---- what givers lose, without what takers get

-- where who took keeps it, the others are as if nobody took
abbrev AreAlike : Tax → (rows real : List Row) → Type 0
AreAlike tax rows real = (k : ℕ) → Keeps tax rows k ⊎ (slice_get rows k ≡ slice_get real k)

giver_alike : (tax : Tax) (rows real : List Row) (giver taker : ℕ) → HaveShares rows → IsTransfer tax rows giver taker → AreAlike tax rows real → slice_get rows giver ≡ slice_get real giver
giver_alike tax rows real giver taker h t alike = ⊎_elim (λ keeps. absurd (keeper_gives_none tax rows giver taker h t keeps)) (λ same. same) (alike giver)

alike_after : (tax : Tax) (rows real : List Row) (giver taker : ℕ) → HaveShares rows → IsTransfer tax rows giver taker → AreAlike tax rows real → AreAlike tax (transferred rows giver taker) (change_at revoked_row real giver)
alike_after tax rows real giver taker h t alike k =
    let p = parties tax rows giver taker t in
    let two = two_parties tax rows giver taker t in
    ⊎_elim
    (λ (same : k ≡ taker). inl (subst (λ (n : ℕ). Keeps tax (transferred rows giver taker) n) (sym same) (taker_keeps tax rows giver taker h t)))
    (λ (ne : k ≢ taker). ⊎_elim
    (λ (same : k ≡ giver).
    let here = sym (giver_alike tax rows real giver taker h t alike) ∙ p.from_at in
    inr (subst (λ (n : ℕ). slice_get (transferred rows giver taker) n ≡ slice_get (change_at revoked_row real giver) n) (sym same) (giver_after rows giver taker p.from two p.from_at ∙ sym (row_changed revoked_row real giver p.from here))))
    (λ (ne' : k ≢ giver). ⊎_elim
    (λ keeps. inl (keeper_keeps tax rows giver taker k h t keeps))
    (λ is. inr (other_after rows giver taker k ne' ne ∙ is ∙ sym (row_unchanged revoked_row real giver k ne')))
    (alike k))
    (cases_eq k giver))
    (cases_eq k taker)

pub gives_from_its_own : (tax : Tax) (rows real : List Row) (givers : List ℕ) → HaveShares rows → AreAlike tax rows real → Each tax rows givers → EachMove (λ before giver. IsRevocable (rows_after real before) giver) givers
gives_from_its_own tax rows real [] h alike each i l = absurd (omega arith)
gives_from_its_own tax rows real (giver ∷ givers) h alike each zero l =
    let next = first_of tax rows giver givers each in
    let above = revocable_row tax rows giver next.1.least.ratio next.1.least.here in
    subst (λ (o : Option Row). IsSomeAnd o (λ row. row.min < row.target)) (giver_alike tax rows real giver next.0 h next.1 alike) above
gives_from_its_own tax rows real (giver ∷ givers) h alike each (suc i) l =
    let next = first_of tax rows giver givers each in
    let after = sym (given_is tax rows giver next.0 h next.1) in
    gives_from_its_own tax (given_by tax rows giver) (change_at revoked_row real giver) givers (given-have_shares tax rows giver next.0 h next.1)
    (subst (λ (xs : List Row). AreAlike tax xs (change_at revoked_row real giver)) after (alike_after tax rows real giver next.0 h next.1 alike)) (each_after tax rows giver givers each) i (omega arith)

pub rebalancing_applies : (tax : Tax) (rows : List Row) (givers : List ℕ) → HaveShares rows → Each tax rows givers → EachMove (λ before giver. IsRevocable (rows_after rows before) giver) givers
rebalancing_applies tax rows givers h each = gives_from_its_own tax rows rows givers h (λ k. inr refl) each
