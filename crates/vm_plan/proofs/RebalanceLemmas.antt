-- The function that gives the rebalancing list meets the relation.
use Rattle.std.proofs.Common.{◌≡◌, ℕ, zero, suc, ◌<◌, ◌==◌, ◌&&◌, not, Bool, true, false, cond, List, [], ◌∷◌, Option, Some, None, IsNone, All, length, take, slice_index, sym, refl, ap, ◌∙◌, subst, arith}
use Rattle.std.specs.Option.{option_map, option_map_or, MatchOption}
use Rattle.std.proofs.lemmas.Bool.{ltb-true, lt-ltb, eqb-true, eq-eqb, false≢true}
use Rattle.std.proofs.lemmas.Option.{same_Some}
use Rattle.std.proofs.lemmas.List.{get_or_default, length-map}
use Rattle.vm_tax.specs.Ratio.{Ratio, Tax, IsLess, is_less}
use Rattle.vm_tax.specs.Offers.{offer_at, AllHaveShares, IsLeast, IsGreatest, Offer, least_offer, greatest_offer, greatest_position}
use Rattle.vm_tax.proofs.OfferLemmas.{least_offer-least, greatest_position-greatest, greatest_position-from, greatest_offer-from, least_unique, greatest_unique, none_at}
use Rattle.vm_plan.specs.declared.row.PlanRow.{PlanRow}
use Rattle.vm_plan.specs.PlanRow.{row_of, rows_of}
use Rattle.vm_plan.specs.Row.{Row, HaveShares, revocable_ratio, revocable_ratios, wanting_ratios, change_at}
use Rattle.vm_plan.specs.Revocation.{revoked_row}
use Rattle.vm_plan.specs.Rebalancing.{taken_row, taking_ratios, transferred, given_by, rows_given, ComesBack, IsNextGiver, IsRebalancingList, comes_back, giver_of, next_giver, rebalancing_list}
use Rattle.vm_plan.specs.Moves.{EachMove}
use Rattle.vm_plan.proofs.GrantLemmas.{both}
use Rattle.vm_plan.proofs.ListLemmas.{change-have_shares, each_cons}
use Rattle.vm_plan.proofs.Places.{length-change, within}
use Rattle.vm_plan.proofs.RowLemmas.{revocable-have_shares, taking-have_shares, wanting-have_shares}
use Rattle.vm_plan.proofs.TransferLemmas.{given_is, transferred-have_shares}
use Rattle.vm_plan.proofs.Unique.{one_rebalancing_list}

-- ---- the next giver, as a function, is the next one

greatest_offer-greatest : (offers : List (Option Ratio)) (best : Option Offer) → AllHaveShares offers → greatest_offer offers ≡ best
    → MatchOption best (All IsNone offers) (λ b. (f : IsGreatest offers b.position) × (f.ratio ≡ b.ratio))
greatest_offer-greatest offers None shares e =
    subst (λ (o : Option ℕ). MatchOption o (All IsNone offers) (IsGreatest offers)) (ap (option_map (λ (o : Offer). o.position)) e) (greatest_position-greatest offers shares)
greatest_offer-greatest offers (Some b) shares e =
    let f : IsGreatest offers b.position = subst (λ (o : Option ℕ). MatchOption o (All IsNone offers) (IsGreatest offers)) (ap (option_map (λ (o : Offer). o.position)) e) (greatest_position-greatest offers shares) in
    let found : Offer = record { position = b.position; ratio = f.ratio } in
    (f, ap (λ (o : Offer). o.ratio) (same_Some found b (sym (greatest_offer-from offers b.position shares f) ∙ e)))

back_by : (offers : List (Option Ratio)) (giver : ℕ) (first : Option ℕ) → MatchOption first (All IsNone offers) (IsGreatest offers) → option_map_or (λ first. first == giver) first false ≡ true → IsGreatest offers giver
back_by offers giver None m e = absurd (false≢true e)
back_by offers giver (Some first) m e = subst (λ (k : ℕ). IsGreatest offers k) (eqb-true first giver e) m

back_tested : (tax : Tax) (rows : List Row) (giver : ℕ) → HaveShares rows → (comes_back tax rows giver ≡ true → ComesBack tax rows giver) × (ComesBack tax rows giver → comes_back tax rows giver ≡ true)
back_tested tax rows giver h =
    let offers = wanting_ratios tax (change_at revoked_row rows giver) in
    let shares = wanting-have_shares tax (change_at revoked_row rows giver) (change-have_shares revoked_row (λ row. refl) rows giver h) in (
      back_by offers giver (greatest_position offers) (greatest_position-greatest offers shares),
      λ back. ap (λ (o : Option ℕ). option_map_or (λ first. first == giver) o false) (greatest_position-from offers giver shares back) ∙ eq-eqb giver giver refl,
    )

-- the next giver, or there is none
abbrev IsNext : Tax → List Row → Option ℕ → Type 0
IsNext tax rows next = MatchOption next ((giver : ℕ) → ¬ IsNextGiver tax rows giver) (IsNextGiver tax rows)

and_not : (a b : Bool) → a ≡ true → (b ≡ true → ⊥) → (a && not b) ≡ true
and_not true false e n = refl
and_not true true e n = absurd (n refl)
and_not false b e n = absurd (false≢true e)

not_true : (b : Bool) → not b ≡ true → b ≡ true → ⊥
not_true true e f = false≢true e
not_true false e f = false≢true f

next_if : (tax : Tax) (rows : List Row) (giver taker : Offer) (test : Bool) → HaveShares rows → (least : IsLeast (revocable_ratios tax rows) giver.position) → (most : IsGreatest (taking_ratios tax rows) taker.position)
    → least.ratio ≡ giver.ratio → most.ratio ≡ taker.ratio → (is_less giver.ratio taker.ratio && not (comes_back tax rows giver.position)) ≡ test → IsNext tax rows (cond test (Some giver.position) None)
next_if tax rows giver taker true h least most e f test =
    let tests = both _ _ test in
    let less : IsLess giver.ratio taker.ratio = ltb-true _ _ tests.0 in
    let pays = subst (λ (r : Ratio). IsLess r most.ratio) (sym e) (subst (λ (r : Ratio). IsLess giver.ratio r) (sym f) less) in (
      taker.position,
      record { least = least; most = most; pays_more = pays; stays = λ back. not_true _ tests.1 ((back_tested tax rows giver.position h).1 back) },
    )
next_if tax rows giver taker false h least most e f test = λ other next.
    let t = next.1 in
    let place = least_unique (revocable_ratios tax rows) other giver.position t.least least in
    let place' = greatest_unique (taking_ratios tax rows) next.0 taker.position t.most most in
    let price = same_Some t.least.ratio least.ratio (sym (subst (λ (k : ℕ). offer_at (revocable_ratios tax rows) k ≡ Some t.least.ratio) place t.least.here) ∙ least.here) ∙ e in
    let pays = same_Some t.most.ratio most.ratio (sym (subst (λ (k : ℕ). offer_at (taking_ratios tax rows) k ≡ Some t.most.ratio) place' t.most.here) ∙ most.here) ∙ f in
    let less : IsLess giver.ratio taker.ratio = subst (λ (r : Ratio). IsLess r taker.ratio) price (subst (λ (r : Ratio). IsLess t.least.ratio r) pays t.pays_more) in
    let stays = λ (back : comes_back tax rows giver.position ≡ true). t.stays (subst (λ (k : ℕ). ComesBack tax rows k) (sym place) ((back_tested tax rows giver.position h).0 back)) in
    false≢true (sym test ∙ and_not _ _ (lt-ltb _ _ less) stays)

next_of : (tax : Tax) (rows : List Row) (giver taker : Option Offer) → HaveShares rows
    → MatchOption giver (All IsNone (revocable_ratios tax rows)) (λ b. (f : IsLeast (revocable_ratios tax rows) b.position) × (f.ratio ≡ b.ratio))
    → MatchOption taker (All IsNone (taking_ratios tax rows)) (λ b. (f : IsGreatest (taking_ratios tax rows) b.position) × (f.ratio ≡ b.ratio)) → IsNext tax rows (giver_of tax rows giver taker)
next_of tax rows None taker h none m = λ giver next. none_at (revocable_ratios tax rows) giver next.1.least.ratio none next.1.least.here
next_of tax rows (Some giver) None h m none = λ other next. none_at (taking_ratios tax rows) next.0 next.1.most.ratio none next.1.most.here
next_of tax rows (Some giver) (Some taker) h m n = next_if tax rows giver taker (is_less giver.ratio taker.ratio && not (comes_back tax rows giver.position)) h m.0 n.0 m.1 n.1 refl

next_giver-next : (tax : Tax) (rows : List Row) → HaveShares rows → IsNext tax rows (next_giver tax rows)
next_giver-next tax rows h =
    next_of tax rows (least_offer (revocable_ratios tax rows)) (greatest_offer (taking_ratios tax rows)) h (least_offer-least (revocable_ratios tax rows) (revocable-have_shares tax rows h))
    (greatest_offer-greatest (taking_ratios tax rows) (greatest_offer (taking_ratios tax rows)) (taking-have_shares tax rows h) refl)

-- ---- the whole list

rebalancing_step : (tax : Tax) (limit : ℕ) (rows : List Row) (rest : ℕ → List ℕ) (first : Option ℕ) → IsNext tax rows first
    → ((giver : ℕ) → IsNextGiver tax rows giver → IsRebalancingList tax limit (given_by tax rows giver) (rest giver)) → IsRebalancingList tax (suc limit) rows (option_map_or (λ giver. giver ∷ rest giver) first [])
rebalancing_step tax limit rows rest None none meets = record {
  each_next = λ i l. absurd (omega arith);
  no_more = omega arith;
  ends = λ fewer. none;
}
rebalancing_step tax limit rows rest (Some giver) next meets =
    let after = meets giver next in
    record {
      each_next = each_cons (λ before giver. IsNextGiver tax (rows_given tax rows before) giver) giver (rest giver) next after.each_next;
      no_more = omega (arith, after.no_more);
      ends = λ fewer. after.ends (omega arith);
    }

pub rebalancing_list-meets : (tax : Tax) (limit : ℕ) (rows : List Row) → HaveShares rows → IsRebalancingList tax limit rows (rebalancing_list tax limit rows)
unfolding rebalancing_list
rebalancing_list-meets tax zero rows h = record {
  each_next = λ i l. absurd (omega arith);
  no_more = omega arith;
  ends = λ fewer. absurd (omega arith);
}
rebalancing_list-meets tax (suc limit) rows h =
    rebalancing_step tax limit rows (λ giver. rebalancing_list tax limit (given_by tax rows giver)) (next_giver tax rows) (next_giver-next tax rows h)
    (λ giver next. rebalancing_list-meets tax limit (given_by tax rows giver)
    (subst (λ (xs : List Row). HaveShares xs) (sym (given_is tax rows giver next.0 h next.1)) (transferred-have_shares rows giver next.0 h)))

pub rebalancing_list-only : (tax : Tax) (limit : ℕ) (rows : List Row) (givers : List ℕ) → HaveShares rows → IsRebalancingList tax limit rows givers → givers ≡ rebalancing_list tax limit rows
rebalancing_list-only tax limit rows givers h list = one_rebalancing_list tax limit rows givers (rebalancing_list tax limit rows) list (rebalancing_list-meets tax limit rows h)

-- ---- the givers are there

length-given : (tax : Tax) (rows : List Row) (giver : ℕ) → length (given_by tax rows giver) ≡ length rows
length-given tax rows giver = go (greatest_position (taking_ratios tax rows))
  where
    go : (o : Option ℕ) → length (option_map_or (transferred rows giver) o rows) ≡ length rows
    go None = refl
    go (Some taker) = length-change taken_row (change_at revoked_row rows giver) taker ∙ length-change revoked_row rows giver

pub length-rows_given : (tax : Tax) (rows : List Row) (givers : List ℕ) → length (rows_given tax rows givers) ≡ length rows
length-rows_given tax rows [] = refl
length-rows_given tax rows (giver ∷ givers) = length-rows_given tax (given_by tax rows giver) givers ∙ length-given tax rows giver

pub rebalancing_within : (tax : Tax) (rows : List PlanRow) (givers : List ℕ) → EachMove (λ before giver. IsNextGiver tax (rows_given tax (rows_of rows) before) giver) givers → All (λ position. position < length rows) givers
rebalancing_within tax rows givers each k d l =
    let least = (each k l).1.least in
    let at = within (revocable_ratio tax) (rows_given tax (rows_of rows) (take k givers)) (slice_index givers k) least.ratio least.here in
    let wide = length-rows_given tax (rows_of rows) (take k givers) ∙ length-map rows row_of in
    subst (λ (n : ℕ). n < length rows) (get_or_default givers k 0 d l) (omega arith)
