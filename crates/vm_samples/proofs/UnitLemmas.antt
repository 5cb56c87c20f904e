-- The unit that is doubled until memory has few of it.
use Rattle.std.proofs.Common.{◌≡◌, ◌∙◌, ℕ, zero, suc, ◌*◌, ◌/◌, ◌<◌, ◌≤◌, Bool, true, false, cond, refl, ap, arith}
use Rattle.std.proofs.lemmas.Bool.{cond-false, cond-true, le-leb, lt-leb}
use Rattle.std.specs.Prelude.{nat_le}
use Rattle.vm_samples.specs.PolicyOf.{default_unit, doubled}

-- a unit that was doubled so often
abbrev pub greatest : ℕ → ℕ → ℕ
greatest zero unit = unit
greatest (suc times) unit = greatest times (2 * unit)

pub least_greatest : (times unit : ℕ) → unit ≤ greatest times unit
least_greatest zero unit = omega arith
least_greatest (suc times) unit = let rest = least_greatest times (2 * unit) in omega arith

within_if : (b : Bool) (unit rest most : ℕ) → unit ≤ most → unit ≤ rest → rest ≤ most → (unit ≤ cond b unit rest) × (cond b unit rest ≤ most)
within_if true unit rest most few low high = (omega arith, few)
within_if false unit rest most few low high = (low, high)

pub doubled_within : (times unit memory : ℕ) → (unit ≤ doubled times unit memory) × (doubled times unit memory ≤ greatest times unit)
doubled_within zero unit memory = (omega arith, omega arith)
doubled_within (suc times) unit memory =
    let rest = doubled_within times (2 * unit) memory in
    let most = least_greatest times (2 * unit) in
    within_if (nat_le (memory / unit) 262144) unit (doubled times (2 * unit) memory) (greatest times (2 * unit))
    (omega arith) (omega (arith, rest.0)) rest.1

pub unit_within : (memory : ℕ) → (1024 ≤ default_unit memory) × (default_unit memory ≤ 1048576)
unit_within memory = doubled_within 10 1024 memory

-- the unit is the one, or it is doubled once more
pub doubled_enough : (times unit memory : ℕ) → memory / unit ≤ 262144 → doubled times unit memory ≡ unit
doubled_enough zero unit memory few = refl
doubled_enough (suc times) unit memory few = cond-true _ _ _ (le-leb _ _ few)

pub doubled_more : (left times unit memory : ℕ) → left ≡ suc times → 262144 < memory / unit → doubled left unit memory ≡ doubled times (2 * unit) memory
doubled_more left times unit memory is many =
    ap (λ (n : ℕ). doubled n unit memory) is ∙ cond-false _ _ _ (lt-leb _ _ many)

pub greatest_more : (left times unit : ℕ) → left ≡ suc times → greatest left unit ≡ greatest times (2 * unit)
greatest_more left times unit is = ap (λ (n : ℕ). greatest n unit) is
