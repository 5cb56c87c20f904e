-- The first of the greatest numbers, with one number more.
use Rattle.std.proofs.Common.{◌≡◌, ◌==◌, ℕ, zero, suc, ◌<◌, Option, Some, None, if◌then◌else◌, nat_lt, inl, inr, refl, ap, ◌∙◌, sym, arith}
use Rattle.std.proofs.lemmas.Bool.{cases_lt, eq-eqb, le-ltb, lt-ltb, ne_eqb}
use Rattle.std.specs.Option.{option_or}
use Rattle.vm_tally.specs.Counting.{first_greatest_over, first_over, greatest_over}

-- the first that has a number
abbrev first-with : (ℕ → ℕ) → (m n : ℕ) → Option ℕ
first-with number m n = first_over (λ k. number k == m) n

-- none has a number above the greatest
none-above : (number : ℕ → ℕ) (n m : ℕ) → greatest_over number n < m → first-with number m n ≡ None
none-above number zero m above = refl
none-above number (suc n) m above =
    let before = none-above number n m (omega (arith, above)) in
    let here = ne_eqb (number n) m (λ e. omega (arith, above, e)) in
    λ i. option_or (before i) (if here i then Some n else None)

-- where it isn't 0, one has the greatest
reached : (number : ℕ → ℕ) (n m : ℕ) → m ≡ greatest_over number n → 0 < m → (j : ℕ) × (first-with number m n ≡ Some j)
reached number zero m is some = absurd (omega (arith, is, some))
reached number (suc n) m is some =
    elim (cases_lt (greatest_over number n) (number n)) [
      | inl more ↦
          let before = none-above number n m (omega (arith, is, more)) in
          let here = eq-eqb (number n) m (omega (arith, is, more)) in
          (n, λ i. option_or (before i) (if here i then Some n else None))
      | inr less ↦
          let found = reached number n m (omega (arith, is, less)) some in
          (found.0, ap (λ first. option_or first (if number n == m then Some n else None)) found.1)
    ]

-- no later one is the first
stays : (first later : Option ℕ) (j : ℕ) → first ≡ Some j → first ≡ option_or first later
stays first later j is = is ∙ sym (ap (λ found. option_or found later) is)

pub worst_next : (number : ℕ → ℕ) (k : ℕ)
    → (if nat_lt (greatest_over number k) (number k) then Some k else first_greatest_over number k) ≡ first_greatest_over number (suc k)
worst_next number k =
    let g = greatest_over number k in
    let m = greatest_over number (suc k) in
    elim (cases_lt g (number k)) [
      | inl more ↦
          let above = lt-ltb g (number k) more in
          let some = ne_eqb m 0 (λ e. omega (arith, more, e)) in
          let before = none-above number k m (omega (arith, more)) in
          let here = eq-eqb (number k) m (omega (arith, more)) in
          (λ i. if above i then Some k else first_greatest_over number k)
          ∙ sym (λ i. if some i then None else option_or (before i) (if here i then Some k else None))
      | inr less ↦
          let below = le-ltb g (number k) less in
          let same : m ≡ g = omega (arith, less) in
          let old = λ (n : ℕ). if n == 0 then None else first-with number n k in
          let new = λ (n : ℕ). if n == 0 then None else option_or (first-with number n k) (if number k == n then Some k else None) in
          let both : old g ≡ new g = elim (cases_lt 0 g) [
            | inl some ↦
                let found = reached number k g refl some in
                ap (λ (first : Option ℕ). if g == 0 then None else first)
                (stays (first-with number g k) (if number k == g then Some k else None) found.0 found.1)
            | inr none ↦
                let is = eq-eqb g 0 (omega (arith, none)) in
                (λ i. if is i then None else first-with number g k)
                ∙ sym (λ i. if is i then None else option_or (first-with number g k) (if number k == g then Some k else None))
          ] in
          (λ i. if below i then Some k else first_greatest_over number k) ∙ both ∙ sym (ap new same)
    ]
