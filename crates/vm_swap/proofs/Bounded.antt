-- A map whose keys are below a bound has at most that many.
use Rattle.std.proofs.Common.{true, false, ℕ, zero, suc, ◌+◌, ◌-◌, ◌<◌, ◌≤◌, ◌≡◌, cond, Some, None, refl, sym, ap, ◌∙◌, inl, inr, arith}
use Rattle.std.proofs.lemmas.Bool.{eq-eqb, ne_eqb, cond-true, cond-false, cases_eq}
use Rattle.std.proofs.lemmas.Option.{none-some}
use Rattle.std.specs.Option.{is_some}
use Rattle.std.specs.Ordering.{nat_cmp}
use Rattle.std.specs.Cmp.{nat_cmp_total}
use Rattle.std.specs.FinMap.{FinMap, get, insert, remove, empty, len, get-empty, len-empty, len-remove, same_map, nat_cmp-IsAntisymmetric}
use Rattle.vm_swap.proofs.Slots.{nat_get-insert, nat_get-remove}

-- each key of the map is below the bound
pub record KeysBelow {X : Type 0} (m : FinMap nat_cmp X) (bound : ℕ) : Type 0 where
  pub below : (key : ℕ) (value : X) → get m key ≡ Some value → key < bound

no_keys : {X : Type 0} (m : FinMap nat_cmp X) → KeysBelow m 0 → m ≡ empty
no_keys {X} m keys = same_map nat_cmp_total nat_cmp-IsAntisymmetric m empty (λ q.
    elim (get m q) as (λ o. get m q ≡ o → get m q ≡ get (empty {X = X} {R = nat_cmp}) q) [
      | None ↦ λ none. none ∙ sym (get-empty nat_cmp q)
      | Some v ↦ λ some. let wrong : q < 0 = keys.below q v some in absurd (omega arith)
    ] refl)

-- without the greatest key that the bound allows, all keys are below a bound that is lower by one
without_last : {X : Type 0} (m : FinMap nat_cmp X) (n : ℕ) → KeysBelow m (suc n) → KeysBelow (remove m n) n
without_last m n keys = record {
  below = λ q v has. elim (cases_eq q n) [
    | inl same ↦ absurd (none-some v (sym (nat_get-remove m n q ∙ cond-true _ _ _ (eq-eqb q n same)) ∙ has))
    | inr other ↦
        let was : q < suc n = keys.below q v (sym (nat_get-remove m n q ∙ cond-false _ _ _ (ne_eqb q n other)) ∙ has) in
        omega arith
  ];
}

less_by_one : {X : Type 0} (m : FinMap nat_cmp X) (k : ℕ) → len m ≤ len (remove m k) + 1
less_by_one m k = elim (is_some (get m k)) as (λ b. len (remove m k) ≡ cond b (len m - 1) (len m) → len m ≤ len (remove m k) + 1) [
  | true ↦ λ e. omega arith
  | false ↦ λ e. omega arith
] (len-remove nat_cmp_total m k)

pub len-KeysBelow : {X : Type 0} (bound : ℕ) (m : FinMap nat_cmp X) → KeysBelow m bound → len m ≤ bound
len-KeysBelow {X} zero m keys = let none : len m ≡ 0 = ap len (no_keys m keys) ∙ len-empty nat_cmp X in omega arith
len-KeysBelow (suc n) m keys =
    let rest : len (remove m n) ≤ n = len-KeysBelow n (remove m n) (without_last m n keys) in
    let more = less_by_one m n in
    omega arith

pub KeysBelow-insert : {X : Type 0} (m : FinMap nat_cmp X) (key : ℕ) (value : X) (bound : ℕ) → KeysBelow m bound → key < bound → KeysBelow (insert m key value) bound
KeysBelow-insert m key value bound keys small = record {
  below = λ q v has. elim (cases_eq q key) [
    | inl same ↦ rw same small
    | inr other ↦ keys.below q v (sym (nat_get-insert m key value q ∙ cond-false _ _ _ (ne_eqb q key other)) ∙ has)
  ];
}
