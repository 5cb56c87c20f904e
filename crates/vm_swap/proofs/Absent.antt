-- A page that is not in a map of pages.
use Rattle.std.proofs.Common.{◌≡◌, ℕ, Option, Bool, true, false, cond, ◌==◌, Some, None, refl, sym, ap, ◌∙◌, inl, inr}
use Rattle.std.proofs.lemmas.Bool.{cases_eq, eq-eqb, ne_eqb, cond-true, cond-false}
use Rattle.std.specs.Option.{is_some}
use Rattle.std.specs.Ordering.{nat_cmp}
use Rattle.std.specs.Cmp.{nat_cmp_total}
use Rattle.std.specs.FinMap.{FinMap, get, remove, same_map, nat_cmp-IsAntisymmetric}
use Rattle.vm_swap.proofs.Slots.{nat_get-remove}

pub get-absent : {X : Type 0} (m : FinMap nat_cmp X) (page : ℕ) → is_some (get m page) ≡ false → get m page ≡ None
get-absent {X} m page gone =
    elim (get m page) as (λ o. is_some o ≡ false → o ≡ None) [
      | None ↦ λ none. refl
      | Some v ↦ λ none. let no : true ≡ false = none in absurd (cc)
    ] gone

-- what is not there is not taken away
pub remove-absent : {X : Type 0} (m : FinMap nat_cmp X) (page : ℕ) → get m page ≡ None → remove m page ≡ m
remove-absent m page gone = same_map nat_cmp_total nat_cmp-IsAntisymmetric _ _ (λ q.
    nat_get-remove m page q
    ∙ elim (cases_eq q page) [
      | inl here ↦ cond-true _ _ _ (eq-eqb q page here) ∙ sym gone ∙ ap (get m) (sym here)
      | inr other ↦ cond-false _ _ _ (ne_eqb q page other)
    ])

-- nor is what was not there found once another one is gone
pub get-remove-absent : {X : Type 0} (m : FinMap nat_cmp X) (page other : ℕ) → get m other ≡ None → get (remove m page) other ≡ None
get-remove-absent {X} m page other gone = nat_get-remove m page other ∙ ap (cond (other == page) None) gone ∙ same (other == page)
  where
    same : (b : Bool) → cond {A = Option X} b None None ≡ None
    same true = refl
    same false = refl
