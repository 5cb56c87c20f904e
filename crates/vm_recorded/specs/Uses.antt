-- What a guest used in an epoch, and the number that keeps it.
use Rattle.std.specs.Prelude.{◌≡◌, ℕ, zero, suc, Option, Some, None, refl}
use Rattle.vm_recorded.specs.declared.used.Use.TheInside.{Inside}

-- nothing is kept as 0, and so many units as one more
abbrev pub use_in : ℕ → Option ℕ
use_in zero = None
use_in (suc units) = Some units

abbrev pub use_of : Inside → Option ℕ
use_of kept = use_in kept.code

abbrev pub code_in : Option ℕ → ℕ
code_in None = zero
code_in (Some units) = suc units

abbrev pub code_of : Option ℕ → Inside
code_of used = record { code = code_in used }

code_in-back : (code : ℕ) → code_in (use_in code) ≡ code
code_in-back zero = refl
code_in-back (suc units) = refl

pub use_of-back : (kept : Inside) → Unit {0} → code_of (use_of kept) ≡ kept
use_of-back kept _ = λ i. record { code = code_in-back kept.code i }
