-- What a `?` passes on.
use Rattle.std.proofs.Common.{◌≡◌, Result, Ok, Err, sym, ap, ◌∙◌}
use Rattle.std.specs.Result.{IsErrAnd}

-- the result is the error that a call gave
pub passed_err : {X E : Type 0} (passed : Result X E) (e : E) → IsErrAnd passed (λ got. got ≡ e) → passed ≡ Err e
passed_err (Ok x) e same = absurd same
passed_err (Err got) e same = ap Err same

-- which error a call gave, where the result is known
pub given_err : {X E : Type 0} (passed : Result X E) (e f : E) → IsErrAnd passed (λ got. got ≡ e) → passed ≡ Err f → e ≡ f
given_err (Ok x) e f same is = absurd same
given_err (Err got) e f same is = sym same ∙ (let z = is in cc)
