-- Which error a refused post gives.
use Rattle.std.proofs.Common.{◌≡◌, ℕ, ◌<◌, ◌≤◌, Result, Ok, Err, refl, arith}
use Rattle.std.specs.Prelude.{◌↔◌}
use Rattle.vm_balloon.specs.declared.error.PostError.{PostError}
use Rattle.vm_balloon.specs.declared.error.PostError.TheVariants.{Full, TooLong}

-- a buffer that isn't too long, and one that is full
pub full_short : {X : Type 0} (n : ℕ) → n ≤ 1024 → (◌≡◌ {A = Result X PostError} (Err Full) (Err TooLong)) ↔ (1024 < n)
full_short n few = (λ e. absurd (let z = e in cc), λ long. absurd (omega (arith, few, long)))

pub full_all : {X : Type 0} (n posted buffers : ℕ) → n ≤ 1024 → posted ≡ buffers
    → (◌≡◌ {A = Result X PostError} (Err Full) (Err Full)) ↔ ((n ≤ 1024) × (posted ≡ buffers))
full_all n posted buffers few all = (λ _. (few, all), λ _. refl)

-- a buffer that is posted
pub posted_short : {X : Type 0} (x : X) (n : ℕ) → n ≤ 1024 → (◌≡◌ {A = Result X PostError} (Ok x) (Err TooLong)) ↔ (1024 < n)
posted_short x n few = (λ e. absurd (let z = e in cc), λ long. absurd (omega (arith, few, long)))
