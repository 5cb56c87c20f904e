-- A reader or a writer that fails in a call is told by its error.
use Rattle.std.proofs.Common.{◌≡◌, ◌∙◌, ◌⊎◌, inl, inr, Bool, Result, Ok, Err, IsErrAnd, ap, sym}
use Rattle.std.proofs.lemmas.Bool.{false≢true}
use Rattle.vm_streams.specs.Streams.{NewlyFailed}
use Rattle.vm_import.specs.declared.outcome.ImportError.{ImportError}

pub not_newly : (old new : Bool) → new ≡ old → NewlyFailed old new → ⊥
not_newly old new same newly = false≢true (sym newly.0 ∙ sym same ∙ newly.1)

-- a call that didn't fail left it as it was
pub kept_by : {B : Type 0} (P : Type 0) (y : B) (error : ImportError) → (◌≡◌ {A = Result B ImportError} (Ok y) (Err error)) ⊎ P → P
kept_by P y error (inr stays) = stays
kept_by P y error (inl same) = absurd (cc)

-- a call that failed is told
pub told_by : {A B : Type 0} (result : Result A ImportError) (error wanted : ImportError) (old new : Bool) → IsErrAnd result (λ e. e ≡ error)
    → (◌≡◌ {A = Result B ImportError} (Err error) (Err wanted)) ⊎ (new ≡ old) → NewlyFailed old new → result ≡ Err wanted
told_by result error wanted old new is (inr stays) newly = absurd (not_newly old new stays newly)
told_by (Ok x) error wanted old new is (inl same) newly = absurd is
told_by (Err e) error wanted old new is (inl same) newly = let inner : e ≡ wanted = cc in ap Err inner

pub is_error : {A : Type 0} (result : Result A ImportError) (error : ImportError) → IsErrAnd result (λ e. e ≡ error) → result ≡ Err error
is_error (Ok x) error is = absurd is
is_error (Err e) error is = ap Err is

pub since_earlier : {P : Type 0} (last next first : Bool) → P ⊎ (last ≡ next) → next ≡ first → P ⊎ (last ≡ first)
since_earlier last next first (inl failed) same = inl failed
since_earlier last next first (inr stays) same = inr (stays ∙ same)

-- an error of the last call is passed on
pub passes_on : {A B : Type 0} (P : Type 0) (result : Result A ImportError) (error wanted : ImportError) → IsErrAnd result (λ e. e ≡ error)
    → (◌≡◌ {A = Result B ImportError} (Err error) (Err wanted)) ⊎ P → (result ≡ Err wanted) ⊎ P
passes_on P result error wanted is (inr stays) = inr stays
passes_on P (Ok x) error wanted is (inl same) = absurd is
passes_on P (Err e) error wanted is (inl same) = let inner : e ≡ wanted = cc in inl (ap Err inner)
