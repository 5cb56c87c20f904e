-- The search through the powers of ten ends at the least round number.
use Rattle.std.proofs.Common.{◌≡◌, ℕ, zero, suc, ◌+◌, ◌*◌, ◌<◌, ◌≤◌, ◌^◌, inl, inr, ap, ◌∙◌, sym, subst, arith, refl}
use Rattle.std.specs.Prelude.{◌⊎◌}
use Rattle.std.proofs.lemmas.Bool.{cases_lt}
use native.Mathlib.Nat.{pow-le-pow_right, pow-suc, mul_comm}
use Rattle.vm_drawing.specs.Round.{IsRound, IsLeastRound}
use Rattle.vm_drawing.specs.Scale.{round_from, round_up, round_within}
use Rattle.vm_drawing.proofs.ScaleLemmas.{found, further}

-- a power and the ones beyond it
beyond : (j k : ℕ) → j < k → 10 * 10 ^ j ≤ 10 ^ k
beyond j k less =
    let next : 10 ^ (suc j) ≡ 10 ^ j * 10 = pow-suc 10 j in
    let more : 10 ^ (suc j) ≤ 10 ^ k = pow-le-pow_right {n = 10} (omega arith) {i = suc j} {j = k} (omega (arith, less)) in
    omega (arith, next, more)

-- the round numbers of each lesser power are too small
abbrev AreLess : ℕ → ℕ → Type 0
AreLess j value = (k : ℕ) → k < j → 5 * 10 ^ k < value

abbrev IsAtOrBeyond : ℕ → ℕ → Type 0
IsAtOrBeyond p m = (m ≡ p) ⊎ ((m ≡ 2 * p) ⊎ ((m ≡ 5 * p) ⊎ (10 * p ≤ m)))

at_least : (m k : ℕ) → (m ≡ 10 ^ k) ⊎ ((m ≡ 2 * 10 ^ k) ⊎ (m ≡ 5 * 10 ^ k)) → 10 ^ k ≤ m
at_least m k (inl is) = omega (arith, is)
at_least m k (inr (inl is)) = omega (arith, is)
at_least m k (inr (inr is)) = omega (arith, is)

at_most : (m k : ℕ) → (m ≡ 10 ^ k) ⊎ ((m ≡ 2 * 10 ^ k) ⊎ (m ≡ 5 * 10 ^ k)) → m ≤ 5 * 10 ^ k
at_most m k (inl is) = omega (arith, is)
at_most m k (inr (inl is)) = omega (arith, is)
at_most m k (inr (inr is)) = omega (arith, is)

same_power : (p m j k : ℕ) → p ≡ 10 ^ j → j ≡ k → (m ≡ 10 ^ k) ⊎ ((m ≡ 2 * 10 ^ k) ⊎ (m ≡ 5 * 10 ^ k)) → IsAtOrBeyond p m
same_power p m j k is same (inl at) = inl (at ∙ ap (λ (i : ℕ). 10 ^ i) (sym same) ∙ sym is)
same_power p m j k is same (inr (inl at)) = inr (inl (at ∙ ap (λ (i : ℕ). 2 * 10 ^ i) (sym same) ∙ ap (λ (i : ℕ). 2 * i) (sym is)))
same_power p m j k is same (inr (inr at)) = inr (inr (inl (at ∙ ap (λ (i : ℕ). 5 * 10 ^ i) (sym same) ∙ ap (λ (i : ℕ). 5 * i) (sym is))))

-- a round number that reaches the value is of this power or of one beyond it
reaching : (value j p m : ℕ) → p ≡ 10 ^ j → AreLess j value → IsRound m → value ≤ m → IsAtOrBeyond p m
reaching value j p m is less round reaches =
    elim (cases_lt round.power j) [
      | inl before ↦ absurd (omega (arith, less round.power before, at_most m round.power round.multiple, reaches))
      | inr from ↦ elim (cases_lt j round.power) [
        | inl after ↦ inr (inr (inr (omega (arith, is, beyond j round.power after, at_least m round.power round.multiple))))
        | inr until ↦ same_power p m j round.power is (omega (arith, from, until)) round.multiple
      ]
    ]

one_power : (p m : ℕ) → IsAtOrBeyond p m → p ≤ m
one_power p m (inl is) = omega (arith, is)
one_power p m (inr (inl is)) = omega (arith, is)
one_power p m (inr (inr (inl is))) = omega (arith, is)
one_power p m (inr (inr (inr more))) = omega (arith, more)

two_powers : (value p m : ℕ) → p < value → value ≤ m → IsAtOrBeyond p m → 2 * p ≤ m
two_powers value p m above reaches (inl is) = absurd (omega (arith, is, above, reaches))
two_powers value p m above reaches (inr (inl is)) = omega (arith, is)
two_powers value p m above reaches (inr (inr (inl is))) = omega (arith, is)
two_powers value p m above reaches (inr (inr (inr more))) = omega (arith, more)

five_powers : (value p m : ℕ) → 2 * p < value → value ≤ m → IsAtOrBeyond p m → 5 * p ≤ m
five_powers value p m above reaches (inl is) = absurd (omega (arith, is, above, reaches))
five_powers value p m above reaches (inr (inl is)) = absurd (omega (arith, is, above, reaches))
five_powers value p m above reaches (inr (inr (inl is))) = omega (arith, is)
five_powers value p m above reaches (inr (inr (inr more))) = omega (arith, more)

within_one : (p value : ℕ) → value ≤ p → round_within p value ≡ p
within_one p value reached = grind (arith, reached)

within_two : (p value : ℕ) → p < value → value ≤ 2 * p → round_within p value ≡ 2 * p
within_two p value above reached = grind (arith, above, reached)

within_five : (p value : ℕ) → 2 * p < value → round_within p value ≡ 5 * p
within_five p value above = grind (arith, above)

least_within : (value j p : ℕ) → p ≡ 10 ^ j → AreLess j value → value ≤ 5 * p → IsLeastRound value (round_within p value)
least_within value j p is less reached =
    elim (cases_lt p value) [
      | inr one ↦ subst (IsLeastRound value) (sym (within_one p value one)) (record {
        round = record { power = j; multiple = inl is };
        reaches = one;
        none_less = λ m round reaches. one_power p m (reaching value j p m is less round reaches);
      })
      | inl above ↦ elim (cases_lt (2 * p) value) [
        | inr two ↦ subst (IsLeastRound value) (sym (within_two p value above two)) (record {
          round = record { power = j; multiple = inr (inl (ap (λ (i : ℕ). 2 * i) is)) };
          reaches = two;
          none_less = λ m round reaches. two_powers value p m above reaches (reaching value j p m is less round reaches);
        })
        | inl beyond_two ↦ subst (IsLeastRound value) (sym (within_five p value beyond_two)) (record {
          round = record { power = j; multiple = inr (inr (ap (λ (i : ℕ). 5 * i) is)) };
          reaches = reached;
          none_less = λ m round reaches. five_powers value p m beyond_two reaches (reaching value j p m is less round reaches);
        })
      ]
    ]

less_more : (value j p : ℕ) → p ≡ 10 ^ j → AreLess j value → 5 * p < value → AreLess (suc j) value
less_more value j p is less above k before =
    elim (cases_lt k j) [
      | inl earlier ↦ less k earlier
      | inr from ↦
          let same : k ≡ j = omega (arith, before, from) in
          let at : 10 ^ k ≡ p = ap (λ (i : ℕ). 10 ^ i) same ∙ sym is in
          omega (arith, at, above)
    ]

least_from : (n j p value : ℕ) → n + j ≡ 19 → p ≡ 10 ^ j → AreLess j value → value ≤ 5 * 10 ^ 18 → IsLeastRound value (round_from n p value)
least_from zero j p value all is less small =
    let last = less 18 (omega (arith, all)) in absurd (omega (arith, last, small))
least_from (suc n) j p value all is less small =
    elim (cases_lt (5 * p) value) [
      | inr reached ↦ subst (IsLeastRound value) (sym (found (suc n) p value (omega arith) reached)) (least_within value j p is less reached)
      | inl above ↦
          let next : 10 * p ≡ 10 ^ (suc j) = mul_comm 10 p ∙ ap (λ (i : ℕ). i * 10) is ∙ sym (pow-suc 10 j) in
          subst (IsLeastRound value) (sym (further n p value above))
          (least_from n (suc j) (10 * p) value (omega (arith, all)) next (less_more value j p is less above) small)
    ]

pub least_round : (value : ℕ) → value ≤ 5 * 10 ^ 18 → IsLeastRound value (round_up value)
unfolding round_up
least_round value small = least_from 19 0 1 value refl refl (λ k before. absurd (omega (arith, before))) small
