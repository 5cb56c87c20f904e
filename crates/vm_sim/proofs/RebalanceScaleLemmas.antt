-- The rebalancing list under a tax in whole percents, and under the same tax in hundredths of a percent.
use Rattle.std.proofs.Common.{◌≡◌, ℕ, zero, suc, ◌+◌, ◌*◌, ◌<◌, ◌≤◌, ◌==◌, nat_lt, ◌&&◌, not, map, Bool, true, false, cond, List, [], ◌∷◌, Option, Some, None, ⊎_elim, sym, refl, ap, ◌∙◌, arith}
use Rattle.std.proofs.lemmas.Bool.{cases_lt, lt-ltb, le-ltb}
use Rattle.std.specs.Option.{option_map, option_map_or}
use Rattle.vm_config.specs.Migration.{in_hundredths}
use Rattle.vm_domains.specs.Machine.{MachineConfig}
use Rattle.vm_plan.specs.declared.state.State.{State}
use Rattle.vm_plan.specs.declared.state.State.TheVariants.{High, Soft, Hard, Low}
use Rattle.vm_plan.specs.Rebalancing.{comes_back, given_by, giver_of, next_giver, rebalancing_list, taking_ratio, taking_ratios, transferred}
use Rattle.vm_plan.specs.Revocation.{revoked_row}
use Rattle.vm_plan.specs.Row.{Row, revocable_ratio, revocable_ratios, wanting_ratio, wanting_ratios, change_at}
use Rattle.vm_pool.specs.Pool.{PoolView}
use Rattle.vm_reclaim.specs.Policy.{policy_by_percents, policy_of}
use Rattle.vm_reclaim.specs.Rebalance.{giving_rows, most_moved, rebalances_in}
use Rattle.vm_tax.specs.Offers.{Offer, one_further, front_or_behind, best_offer, least_offer, greatest_offer, greatest_position}
use Rattle.vm_tax.specs.Ratio.{Ratio, percents, hundredths, adjusted_ratio, is_less}
use Rattle.vm_tax.proofs.Scales.{adjusted_ratio-scales, product_scales}

-- one fraction in the finer scale
finer : Ratio → Ratio
finer r = record { shares = r.shares; weighted_pages = 100 * r.weighted_pages }

finer_offer : Offer → Offer
finer_offer o = record { position = o.position; ratio = finer o.ratio }

same_ratio : (a b : Ratio) → a.shares ≡ b.shares → a.weighted_pages ≡ b.weighted_pages → a ≡ b
same_ratio a b e f = λ i. record { shares = e i; weighted_pages = f i }

adjusted_ratio-finer : (tax shares pages active : ℕ) → adjusted_ratio (hundredths (100 * tax)) shares pages active ≡ finer (adjusted_ratio (percents tax) shares pages active)
unfolding finer
adjusted_ratio-finer tax shares pages active =
    let h = adjusted_ratio-scales tax shares pages active in
    same_ratio _ _ h.shares h.weighted_pages

is_less-finer : (a b : Ratio) → is_less (finer a) (finer b) ≡ is_less a b
unfolding finer
is_less-finer a b =
    let left = product_scales a.shares b.weighted_pages (100 * b.weighted_pages) refl in
    let right = product_scales b.shares a.weighted_pages (100 * a.weighted_pages) refl in
    ⊎_elim
    (λ (l : a.shares * b.weighted_pages < b.shares * a.weighted_pages). lt-ltb _ _ (omega (arith, left, right, l)) ∙ sym (lt-ltb _ _ l))
    (λ (l : b.shares * a.weighted_pages ≤ a.shares * b.weighted_pages). le-ltb _ _ (omega (arith, left, right, l)) ∙ sym (le-ltb _ _ l))
    (cases_lt (a.shares * b.weighted_pages) (b.shares * a.weighted_pages))

further_finer : (best : Option Offer) → option_map one_further (option_map finer_offer best) ≡ option_map finer_offer (option_map one_further best)
unfolding finer_offer
further_finer None = refl
further_finer (Some o) = refl

choice_finer : (test : Bool) (x y : Offer) → cond test (finer_offer x) (finer_offer y) ≡ finer_offer (cond test x y)
choice_finer true x y = refl
choice_finer false x y = refl

front_finer : (g : Ratio → Ratio → Bool) → ((a b : Ratio) → g (finer a) (finer b) ≡ g a b) → (front : Ratio) (best : Option Offer) → front_or_behind g (finer front) (option_map finer_offer best) ≡ finer_offer (front_or_behind g front best)
unfolding finer_offer
front_finer g same front None = refl
front_finer g same front (Some o) = ap (λ (test : Bool). cond test (one_further (finer_offer o)) (record { position = 0; ratio = finer front })) (same front o.ratio) ∙ choice_finer (g front o.ratio) (one_further o) (record { position = 0; ratio = front })

-- the best of finer offers is the best one, finer
best_offer-finer : (g : Ratio → Ratio → Bool) → ((a b : Ratio) → g (finer a) (finer b) ≡ g a b) → (offers : List (Option Ratio)) → best_offer g (map (option_map finer) offers) ≡ option_map finer_offer (best_offer g offers)
unfolding best_offer
best_offer-finer g same [] = refl
best_offer-finer g same (None ∷ offers) = ap (option_map one_further) (best_offer-finer g same offers) ∙ further_finer (best_offer g offers)
best_offer-finer g same (Some front ∷ offers) =
    ap (λ (best : Option Offer). Some (front_or_behind g (finer front) best)) (best_offer-finer g same offers) ∙ ap (λ (o : Offer). Some o) (front_finer g same front (best_offer g offers))

same_place : (best : Option Offer) → option_map (λ (o : Offer). o.position) (option_map finer_offer best) ≡ option_map (λ (o : Offer). o.position) best
unfolding finer_offer
same_place None = refl
same_place (Some o) = refl

offer_finer : (test : Bool) (a b : Ratio) → b ≡ finer a → cond test (Some b) None ≡ option_map finer (cond test (Some a) None)
offer_finer true a b e = ap (λ (r : Ratio). Some r) e
offer_finer false a b e = refl

-- what rows offer, finer
offers_finer : (offer offer' : Row → Option Ratio) → ((row : Row) → offer' row ≡ option_map finer (offer row)) → (rows : List Row) → map offer' rows ≡ map (option_map finer) (map offer rows)
offers_finer offer offer' same [] = refl
offers_finer offer offer' same (row ∷ rows) = ap (λ (o : Option Ratio). o ∷ map offer' rows) (same row) ∙ ap (λ (xs : List (Option Ratio)). option_map finer (offer row) ∷ xs) (offers_finer offer offer' same rows)

-- ---- the list

module _ (tax : ℕ) (rows : List Row) where
  gives-finer : least_offer (revocable_ratios (hundredths (100 * tax)) rows) ≡ option_map finer_offer (least_offer (revocable_ratios (percents tax) rows))
  gives-finer =
      ap least_offer (offers_finer (revocable_ratio (percents tax)) (revocable_ratio (hundredths (100 * tax)))
      (λ row. offer_finer (nat_lt row.min row.target) _ _ (adjusted_ratio-finer tax row.shares row.target row.active)) rows)
      ∙ best_offer-finer (λ front behind. is_less behind front) (λ a b. is_less-finer b a) (revocable_ratios (percents tax) rows)

  takes-finer : greatest_offer (taking_ratios (hundredths (100 * tax)) rows) ≡ option_map finer_offer (greatest_offer (taking_ratios (percents tax) rows))
  takes-finer =
      ap greatest_offer (offers_finer (taking_ratio (percents tax)) (taking_ratio (hundredths (100 * tax)))
      (λ row. offer_finer (nat_lt 0 row.demand && nat_lt row.target row.cap) _ _ (adjusted_ratio-finer tax row.shares (row.target + 1) row.active)) rows)
      ∙ best_offer-finer is_less is_less-finer (taking_ratios (percents tax) rows)

  wants-finer : greatest_offer (wanting_ratios (hundredths (100 * tax)) rows) ≡ option_map finer_offer (greatest_offer (wanting_ratios (percents tax) rows))
  wants-finer =
      ap greatest_offer (offers_finer (wanting_ratio (percents tax)) (wanting_ratio (hundredths (100 * tax)))
      (λ row. offer_finer (nat_lt 0 row.demand && nat_lt row.target row.cap) _ _ (adjusted_ratio-finer tax row.shares row.target row.active)) rows)
      ∙ best_offer-finer is_less is_less-finer (wanting_ratios (percents tax) rows)

  taker-same : greatest_position (taking_ratios (hundredths (100 * tax)) rows) ≡ greatest_position (taking_ratios (percents tax) rows)
  taker-same = ap (option_map (λ (o : Offer). o.position)) takes-finer ∙ same_place (greatest_offer (taking_ratios (percents tax) rows))

  first-same : greatest_position (wanting_ratios (hundredths (100 * tax)) rows) ≡ greatest_position (wanting_ratios (percents tax) rows)
  first-same = ap (option_map (λ (o : Offer). o.position)) wants-finer ∙ same_place (greatest_offer (wanting_ratios (percents tax) rows))

  given-same : (giver : ℕ) → given_by (hundredths (100 * tax)) rows giver ≡ given_by (percents tax) rows giver
  given-same giver = ap (λ (taker : Option ℕ). option_map_or (transferred rows giver) taker rows) taker-same

back-same : (tax : ℕ) (rows : List Row) (giver : ℕ) → comes_back (hundredths (100 * tax)) rows giver ≡ comes_back (percents tax) rows giver
back-same tax rows giver = ap (λ (first : Option ℕ). option_map_or (λ position. position == giver) first false) (first-same tax (change_at revoked_row rows giver))

chosen-finer : (tax : ℕ) (rows : List Row) (giver taker : Option Offer)
    → giver_of (hundredths (100 * tax)) rows (option_map finer_offer giver) (option_map finer_offer taker) ≡ giver_of (percents tax) rows giver taker
unfolding finer_offer
chosen-finer tax rows None taker = refl
chosen-finer tax rows (Some giver) None = refl
chosen-finer tax rows (Some giver) (Some taker) =
    λ i. cond (is_less-finer giver.ratio taker.ratio i && not (back-same tax rows giver.position i)) (Some giver.position) None

next-same : (tax : ℕ) (rows : List Row) → next_giver (hundredths (100 * tax)) rows ≡ next_giver (percents tax) rows
next-same tax rows =
    (λ i. giver_of (hundredths (100 * tax)) rows (gives-finer tax rows i) (takes-finer tax rows i))
    ∙ chosen-finer tax rows (least_offer (revocable_ratios (percents tax) rows)) (greatest_offer (taking_ratios (percents tax) rows))

-- the same first entry, and the same entries after it
same_entries : (first first' : Option ℕ) (rest rest' : ℕ → List ℕ) → first ≡ first' → ((position : ℕ) → rest position ≡ rest' position)
    → option_map_or (λ position. position ∷ rest position) first [] ≡ option_map_or (λ position. position ∷ rest' position) first' []
same_entries first first' rest rest' e f = ap (λ (o : Option ℕ). option_map_or (λ position. position ∷ rest position) o []) e ∙ go first'
  where
    go : (o : Option ℕ) → option_map_or (λ position. position ∷ rest position) o [] ≡ option_map_or (λ position. position ∷ rest' position) o []
    go None = refl
    go (Some position) = ap (λ (moves : List ℕ). position ∷ moves) (f position)

rebalancing_list-scales : (tax limit : ℕ) (rows : List Row) → rebalancing_list (percents tax) limit rows ≡ rebalancing_list (hundredths (100 * tax)) limit rows
unfolding rebalancing_list
rebalancing_list-scales tax zero rows = refl
rebalancing_list-scales tax (suc limit) rows =
    same_entries (next_giver (percents tax) rows) (next_giver (hundredths (100 * tax)) rows)
    (λ giver. rebalancing_list (percents tax) limit (given_by (percents tax) rows giver))
    (λ giver. rebalancing_list (hundredths (100 * tax)) limit (given_by (hundredths (100 * tax)) rows giver))
    (sym (next-same tax rows))
    (λ giver. rebalancing_list-scales tax limit (given_by (percents tax) rows giver)
    ∙ ap (rebalancing_list (hundredths (100 * tax)) limit) (sym (given-same tax rows giver)))

-- the pages that a boundary moves by both policies of a machine
pub rebalances-same : (m : MachineConfig) (state : State) (pool : PoolView)
    → rebalances_in (policy_by_percents m) state pool ≡ rebalances_in (policy_of (in_hundredths m)) state pool
rebalances-same m High pool = rebalancing_list-scales m.tax (most_moved m.rebalance pool) (giving_rows pool.guests)
rebalances-same m Soft pool = refl
rebalances-same m Hard pool = refl
rebalances-same m Low pool = refl
