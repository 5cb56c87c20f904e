-- Powers of ten, and multiples of a step.
use Rattle.std.proofs.Common.{◌≡◌, ℕ, zero, suc, ◌+◌, ◌-◌, ◌*◌, ◌/◌, ◌<◌, ◌≤◌, ◌^◌, ap, ◌∙◌, sym, arith}
use native.Mathlib.Nat.{add-mul, div-mul-le_self, mul-le-mul_right, one-le-pow, pow-le-pow_right, pow-suc, mul_comm}
use Rattle.vm_drawing.specs.Scale.{round_from, round_within}

-- ---- powers of ten, of which a step is the first that is enough

pub power-small : (n : ℕ) → n < 19 → 10 ^ n ≤ 10 ^ 18
power-small n less = pow-le-pow_right {n = 10} (omega arith) {i = n} {j = 18} (omega (arith, less))

pub power-some : (n : ℕ) → 1 ≤ 10 ^ n
power-some n = one-le-pow n 10 (omega arith)

pub next-power : (n p : ℕ) → p ≡ 10 ^ n → p * 10 ≡ 10 ^ (n + 1)
next-power n p is =
    let next : suc n ≡ n + 1 = omega arith in
    ap (λ (k : ℕ). k * 10) is ∙ sym (pow-suc 10 n) ∙ ap (λ (k : ℕ). 10 ^ k) next

pub found : (n p least : ℕ) → 0 < n → least ≤ 5 * p → round_from n p least ≡ round_within p least
unfolding round_from
found zero p least some reached = absurd (omega (arith, some))
found (suc n) p least some reached = grind (arith, reached)

pub further : (n p least : ℕ) → 5 * p < least → round_from (suc n) p least ≡ round_from n (10 * p) least
unfolding round_from
further n p least beyond = grind (arith, beyond)

pub next-from : (n p least : ℕ) → n < 19 → 5 * p < least → round_from (19 - n) p least ≡ round_from (19 - (n + 1)) (p * 10) least
next-from n p least less beyond =
    let left : 19 - n ≡ suc (19 - (n + 1)) = omega (arith, less) in
    ap (λ (k : ℕ). round_from k p least) left ∙ further (19 - (n + 1)) p least beyond
    ∙ ap (λ (k : ℕ). round_from (19 - (n + 1)) k least) (mul_comm 10 p)

pub at-last : (n p least : ℕ) → 19 ≤ n → round_from (19 - n) p least ≡ p
unfolding round_from
at-last n p least past =
    let none : 19 - n ≡ 0 = omega (arith, past) in
    ap (λ (k : ℕ). round_from k p least) none

-- ---- places

pub tick-small : (first s k : ℕ) → first < 2 ^ 64 → s < 2 ^ 64 → k < 12 → (first / s + k) * s < 2 ^ 70
tick-small first s k place step few =
    let most : k * s ≤ 11 * s = mul-le-mul_right s (omega (arith, few)) in
    omega (arith, add-mul (first / s) k s, div-mul-le_self first s, most, place, step)
