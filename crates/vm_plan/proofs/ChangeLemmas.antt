-- Rows of which one changed, and what they offer.
use Rattle.std.proofs.Common.{◌≡◌, ◌≢◌, ℕ, zero, suc, List, [], ◌∷◌, Option, Some, None, map, slice_get, slice_set, sym, refl, ap, ◌∙◌}
use Rattle.std.specs.Option.{option_map_or}
use Rattle.vm_tax.specs.Ratio.{Ratio}
use Rattle.vm_tax.specs.Offers.{offer_at}
use Rattle.vm_plan.specs.Row.{Row, change_at}
use Rattle.vm_plan.proofs.GrantRunLemmas.{row_in}

pub set_other : (rows : List Row) (k j : ℕ) (new : Row) → j ≢ k → slice_get (slice_set rows k new) j ≡ slice_get rows j
set_other [] k j new ne = refl
set_other (row ∷ rows) zero zero new ne = absurd (ne refl)
set_other (row ∷ rows) zero (suc j) new ne = refl
set_other (row ∷ rows) (suc k) zero new ne = refl
set_other (row ∷ rows) (suc k) (suc j) new ne = set_other rows k j new (λ e. ne (ap suc e))

-- the row that changed
pub row_changed : (change : Row → Row) (rows : List Row) (k : ℕ) (row : Row) → slice_get rows k ≡ Some row → slice_get (change_at change rows k) k ≡ Some (change row)
row_changed change rows k row at =
    let changed : change_at change rows k ≡ slice_set rows k (change row) = ap (λ (o : Option Row). option_map_or (λ row. slice_set rows k (change row)) o rows) at in
    ap (λ (xs : List Row). slice_get xs k) changed ∙ row_in rows k row (change row) at

-- the others
pub row_unchanged : (change : Row → Row) (rows : List Row) (k j : ℕ) → j ≢ k → slice_get (change_at change rows k) j ≡ slice_get rows j
row_unchanged change rows k j ne = go (slice_get rows k)
  where
    go : (o : Option Row) → slice_get (option_map_or (λ row. slice_set rows k (change row)) o rows) j ≡ slice_get rows j
    go None = refl
    go (Some row) = set_other rows k j (change row) ne

-- what is offered is what the row there offers
offer_by : (offer : Row → Option Ratio) (rows : List Row) (k : ℕ) → offer_at (map offer rows) k ≡ option_map_or offer (slice_get rows k) None
offer_by offer [] k = refl
offer_by offer (row ∷ rows) zero = refl
offer_by offer (row ∷ rows) (suc k) = offer_by offer rows k

pub offer_of : (offer : Row → Option Ratio) (rows : List Row) (k : ℕ) (row : Row) → slice_get rows k ≡ Some row → offer_at (map offer rows) k ≡ offer row
offer_of offer rows k row at = offer_by offer rows k ∙ ap (λ (o : Option Row). option_map_or offer o None) at

pub same_offer : (offer : Row → Option Ratio) (xs ys : List Row) (k : ℕ) → slice_get xs k ≡ slice_get ys k → offer_at (map offer xs) k ≡ offer_at (map offer ys) k
same_offer offer xs ys k e = offer_by offer xs k ∙ ap (λ (o : Option Row). option_map_or offer o None) e ∙ sym (offer_by offer ys k)
