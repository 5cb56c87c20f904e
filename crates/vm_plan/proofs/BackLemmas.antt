-- What a guest gives comes straight back where it would be granted a page before each other guest.
use Rattle.std.proofs.Common.{◌≡◌, ◌≢◌, ℕ, ◌-◌, ◌<◌, ◌≤◌, nat_lt, ◌&&◌, true, List, Option, Some, None, IfSome, slice_get, sym, refl, ◌∙◌, subst, arith}
use Rattle.std.proofs.lemmas.Bool.{lt-ltb, ltb-true}
use Rattle.std.proofs.lemmas.Option.{cond_some}
use Rattle.vm_tax.specs.Ratio.{Ratio, Tax, IsAbove}
use Rattle.vm_tax.specs.Offers.{offer_at}
use Rattle.vm_plan.specs.Row.{Row, ratio_with, wanting_ratio, wanting_ratios, change_at}
use Rattle.vm_plan.specs.Revocation.{revoked_row}
use Rattle.vm_plan.specs.Rebalancing.{ComesBack}
use Rattle.vm_plan.specs.Runs.{Leads, LeadsAll}
use Rattle.vm_plan.proofs.ChangeLemmas.{offer_of, row_changed, row_unchanged}
use Rattle.vm_plan.proofs.GrantLemmas.{both}
use Rattle.vm_plan.proofs.Places.{offered_row}

-- what the guest offers then
offer_back : (tax : Tax) (rows : List Row) (giver : ℕ) (guest : Row) → slice_get rows giver ≡ Some guest → offer_at (wanting_ratios tax (change_at revoked_row rows giver)) giver ≡ wanting_ratio tax (revoked_row guest)
offer_back tax rows giver guest at = offer_of (wanting_ratio tax) (change_at revoked_row rows giver) giver (revoked_row guest) (row_changed revoked_row rows giver guest at)

wants_back : (tax : Tax) (guest : Row) (ratio : Ratio) → wanting_ratio tax (revoked_row guest) ≡ Some ratio → (0 < guest.demand) × (ratio_with tax guest (guest.target - 1) ≡ ratio)
wants_back tax guest ratio e =
    let wants = cond_some (nat_lt 0 guest.demand && nat_lt (guest.target - 1) guest.cap) (ratio_with tax guest (guest.target - 1)) ratio e in
    (ltb-true _ _ (both _ _ wants.0).0, wants.1)

pub back_demand : (tax : Tax) (rows : List Row) (giver : ℕ) (guest : Row) → slice_get rows giver ≡ Some guest → ComesBack tax rows giver → 0 < guest.demand
back_demand tax rows giver guest at back = (wants_back tax guest back.ratio (sym (offer_back tax rows giver guest at) ∙ back.here)).0

pub leads_from_back : (tax : Tax) (rows : List Row) (giver : ℕ) (guest : Row) → slice_get rows giver ≡ Some guest → ComesBack tax rows giver → LeadsAll tax (ratio_with tax guest (guest.target - 1)) giver rows
leads_from_back tax rows giver guest at back other = go (slice_get rows other) refl
  where
    before : (row : Row) → slice_get rows other ≡ Some row → giver ≢ other → (o : Option Ratio) → wanting_ratio tax row ≡ o → IfSome o (λ that. IsAbove (ratio_with tax guest (guest.target - 1)) giver that other)
    before row there ne None e = tt
    before row there ne (Some that) e =
        let mine = (wants_back tax guest back.ratio (sym (offer_back tax rows giver guest at) ∙ back.here)).1 in
        let ne' : other ≢ giver = λ same. ne (sym same) in
        let offered = offer_of (wanting_ratio tax) (change_at revoked_row rows giver) other row (row_unchanged revoked_row rows giver other ne' ∙ there) ∙ e in
        subst (λ (r : Ratio). IsAbove r giver that other) (sym mine) (back.before_others other that offered ne')

    go : (o : Option Row) → slice_get rows other ≡ o → IfSome o (λ row. Leads tax (ratio_with tax guest (guest.target - 1)) giver row other)
    go None e = tt
    go (Some row) e = λ ne. before row e ne (wanting_ratio tax row) refl

pub back_from_leads : (tax : Tax) (rows : List Row) (giver : ℕ) (guest : Row) → slice_get rows giver ≡ Some guest → guest.min < guest.target → guest.target ≤ guest.cap → 0 < guest.demand
    → LeadsAll tax (ratio_with tax guest (guest.target - 1)) giver rows → ComesBack tax rows giver
back_from_leads tax rows giver guest at above within demand leads =
    let price = ratio_with tax guest (guest.target - 1) in
    let wants : nat_lt 0 guest.demand ≡ true = lt-ltb 0 guest.demand demand in
    let room : nat_lt (guest.target - 1) guest.cap ≡ true = lt-ltb (guest.target - 1) guest.cap (omega (arith, above, within)) in
    let offered : wanting_ratio tax (revoked_row guest) ≡ Some price = rw (wants, room) refl in
    record {
      ratio = price;
      here = offer_back tax rows giver guest at ∙ offered;
      before_others = λ other that e ne.
          let there = offered_row (wanting_ratio tax) (change_at revoked_row rows giver) other that e in
          let at' = sym (row_unchanged revoked_row rows giver other ne) ∙ there.1 in
          let lead : Leads tax price giver there.0 other = subst (λ (o : Option Row). IfSome o (λ row. Leads tax price giver row other)) at' (leads other) in
          subst (λ (o : Option Ratio). IfSome o (λ that. IsAbove price giver that other)) there.2 (lead (λ same. ne (sym same)));
    }
