-- What a machine lacks, and what it has room for.
use Rattle.std.proofs.Common.{◌≡◌, ◌↔◌, ℕ, ◌<◌, ◌≤◌, Option, Some, None, Result, Ok, Err, SomeIff, IsErrOf, ok_or, ⊎_elim, sym, ◌∙◌, arith}
use Rattle.std.proofs.lemmas.Bool.{cases_lt}
use Rattle.std.proofs.lemmas.Option.{none-some, same_Some}
use Rattle.vm_admission.specs.declared.error.AdmissionError.{AdmissionError}
use Rattle.vm_admission.specs.declared.error.AdmissionError.TheVariants.{NoMemory, NoSwap}
use Rattle.vm_admission.specs.Accounts.{Accounts, FitsFrames, FitsSwap, ExceedsFrames, ExceedsSwap}

-- a sum that is within its limit, and one that isn't
pub fits : (r : Option ℕ) (sum limit given : ℕ) → SomeIff r (sum ≤ limit) sum → r ≡ Some given → (sum ≤ limit) × (given ≡ sum)
fits None sum limit given h e = absurd (none-some given e)
fits (Some x) sum limit given h e = (h.0, sym (same_Some x given e) ∙ h.1)

pub exceeds : (r : Option ℕ) (sum limit : ℕ) → SomeIff r (sum ≤ limit) sum → r ≡ None → limit < sum
exceeds (Some x) sum limit h e = absurd (none-some x (sym e))
exceeds None sum limit h e = ⊎_elim (λ l. l) (λ l. absurd (h l)) (cases_lt limit sum)

-- the error of what was not there
pub cause : (r : Option ℕ) (e d : AdmissionError) → ◌≡◌ {A = Result ℕ AdmissionError} (Err e) (ok_or r d) → r ≡ None → e ≡ d
cause (Some x) e d is none = absurd (none-some x (sym none))
cause None e d is none = cc

-- what an answer says of accounts that fit the frames and exceed the swap
pub swap_lacks : {A : Type 0} (r : Result A AdmissionError) (a : Accounts) → r ≡ Err NoSwap → FitsFrames a → ExceedsSwap a
    → (IsErrOf r NoMemory ↔ ExceedsFrames a) × (IsErrOf r NoSwap ↔ (FitsFrames a × ExceedsSwap a))
swap_lacks r a e frames swap =
    let memory : IsErrOf r NoMemory ↔ ExceedsFrames a = (λ other. absurd cc, λ over. absurd (omega (arith, over, frames))) in
    (memory, (λ _. (frames, swap), λ _. e))

-- and of those that fit both
pub fits_both : {A : Type 0} (x : A) (a : Accounts) → FitsFrames a → FitsSwap a → IsErrOf {E = AdmissionError} (Ok x) NoMemory ↔ ExceedsFrames a
fits_both {A} x a frames swap =
    (λ (e : ◌≡◌ {A = Result A AdmissionError} (Ok x) (Err NoMemory)). absurd cc, λ (over : ExceedsFrames a). absurd (omega (arith, over, frames)))
