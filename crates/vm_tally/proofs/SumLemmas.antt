-- Numbers that stop at the greatest of 64 bits, added up.
use Rattle.std.proofs.Common.{◌≡◌, ℕ, ◌+◌, ◌<◌, ◌^◌, arith}
use Rattle.vm_guest.specs.Record.{saturated}

pub saturated_more : (a b : ℕ) → saturated (saturated a + b) ≡ saturated (a + b)
saturated_more a b = omega arith

pub saturated_both : (a b : ℕ) → saturated (saturated a + saturated b) ≡ saturated (a + b)
saturated_both a b = omega arith

-- a sum of 64 bits to which nothing is to be added
pub saturated_end : (a b : ℕ) → a < 2 ^ 64 → saturated (a + 0) ≡ saturated b → a ≡ saturated b
saturated_end a b fits same = omega (arith, fits, same)
