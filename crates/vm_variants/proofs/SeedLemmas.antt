-- Numbers that are added to seeds.
use Rattle.std.proofs.Common.{◌≡◌, ℕ, ◌+◌, ◌%◌, ◌^◌, ◌<◌, ap, sym, ◌∙◌, add_assoc, arith}
use Rattle.std.proofs.Math.Nat.{add-mod-mod, mod-add-mod}
use Rattle.vm_guest.specs.Config.{GuestConfig, IsWithinLimits}
use Rattle.vm_variants.specs.Variants.{with_seed_added}

sums : (seed first second modulus : ℕ) → ((seed + first) % modulus + second) % modulus ≡ (seed + (first + second) % modulus) % modulus
sums seed first second modulus =
    mod-add-mod (seed + first) modulus second ∙ ap (λ n. n % modulus) (add_assoc seed first second)
    ∙ sym (add-mod-mod seed (first + second) modulus)

pub with_seed_added-twice : (first second : ℕ) (guest : GuestConfig)
    → with_seed_added second (with_seed_added first guest) ≡ with_seed_added ((first + second) % 2 ^ 64) guest
with_seed_added-twice first second guest = ap (λ (n : ℕ). record guest { seed = n }) (sums guest.seed first second (2 ^ 64))

none-added : (seed : ℕ) → seed < 2 ^ 64 → (seed + 0) % 2 ^ 64 ≡ seed
none-added seed fits = omega arith

pub with_seed_added-none : (guest : GuestConfig) → IsWithinLimits guest → with_seed_added 0 guest ≡ guest
with_seed_added-none guest is = ap (λ (n : ℕ). record guest { seed = n }) (none-added guest.seed is.seed_fits)
