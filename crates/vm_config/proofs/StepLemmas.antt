-- What is read step by step: where a step fails, the whole fails with its fault.
use Rattle.std.proofs.Common.{◌≡◌, Result, Ok, Err, IfOk, IsErrAnd, inl, inr, refl, ap, subst, sym, ◌∙◌}
use Rattle.vm_config.specs.declared.error.ConfigError.{ConfigError}
use Rattle.vm_config.specs.declared.fault.Fault.{Fault}
use Rattle.vm_config.specs.declared.place.Place.{Place}
use Rattle.vm_config.specs.Outcomes.{◌>>=◌, Answers, IsOrMemory}
use Rattle.vm_config.specs.Places.{placed, IsOrLacksMemory}

-- an answer that is this fault
pub fails : {A : Type 0} (answer : Result A Fault) (f : Fault) → IsErrAnd answer (λ e. e ≡ f) → answer ≡ Err f
fails (Ok x) f is = elim is [ ]
fails (Err e) f is = ap Err is

-- a fault of what is read at a place, seen by a view
pub placed_fault : {A B : Type 0} (place : Place) (read : Result A ConfigError) (seen : A → B) (wanted : Result B ConfigError)
    (located : Result A Fault) (f : Fault)
    → Answers read seen wanted → located ≡ placed place read → located ≡ Err f → placed place wanted ≡ Err f
placed_fault place (Ok x) seen wanted (Ok y) f is at err = absurd (cc)
placed_fault place (Ok x) seen wanted (Err g) f is at err = absurd (cc)
placed_fault place (Err e) seen wanted located f is at err =
    let same : record { error = e; place = place } ≡ f = cc in ap (placed place) is ∙ ap Err same

-- a value that is read at a place, seen by a view
pub placed_value : {A B : Type 0} (place : Place) (read : Result A ConfigError) (seen : A → B) (wanted : Result B ConfigError)
    (located : Result A Fault) (x : A)
    → Answers read seen wanted → located ≡ placed place read → located ≡ Ok x → placed place wanted ≡ Ok (seen x)
placed_value place (Ok y) seen wanted located x is at ok =
    let same : y ≡ x = cc in ap (placed place) is ∙ ap (λ z. Ok (seen z)) same
placed_value place (Err e) seen wanted located x is at ok = absurd (cc)

-- a value that was read is the one that is wanted
pub value_wanted : {A : Type 0} (answer wanted : Result A Fault) (x : A)
    → IsOrLacksMemory answer wanted → answer ≡ Ok x → wanted ≡ Ok x
value_wanted answer wanted x (inl is) ok = sym is ∙ ok
value_wanted (Ok y) wanted x (inr lacks) ok = elim lacks [ ]
value_wanted (Err e) wanted x (inr lacks) ok = absurd (cc)

-- the whole fails as it should
pub failure : {A : Type 0} (answer wanted : Result A Fault) (f : Fault)
    → answer ≡ Err f → wanted ≡ Err f → IsOrLacksMemory answer wanted
failure answer wanted f is should = inl (is ∙ sym should)

-- the whole fails as a step that may want memory
pub failure_of : {A B : Type 0} (answer wanted : Result A Fault) (step found : Result B Fault) (f : Fault)
    → answer ≡ Err f → IsOrLacksMemory step found → step ≡ Err f → (found ≡ Err f → wanted ≡ Err f)
    → IsOrLacksMemory answer wanted
failure_of answer wanted step found f is (inl same) err then_so = inl (is ∙ sym (then_so (sym same ∙ err)))
failure_of (Ok x) wanted step found f is (inr lacks) err then_so = absurd (cc)
failure_of (Err e) wanted (Ok x) found f is (inr lacks) err then_so = elim lacks [ ]
failure_of (Err e) wanted (Err g) found f is (inr lacks) err then_so = inr (cc)

-- nothing is said of the value of a failure
pub no_value : {A : Type 0} (P : A → Type 0) (answer : Result A Fault) (f : Fault) → answer ≡ Err f → IfOk answer P
no_value P (Ok x) f is = absurd (cc)
no_value P (Err e) f is = tt

-- what holds of a value that was read holds of it at its place
pub placed_holds : {A : Type 0} (P : A → Type 0) (place : Place) (read : Result A ConfigError) (located : Result A Fault) (x : A)
    → IfOk read P → located ≡ placed place read → located ≡ Ok x → P x
placed_holds P place (Ok y) located x holds at ok = let same : y ≡ x = cc in subst P same holds
placed_holds P place (Err e) located x holds at ok = absurd (cc)

-- the same of an answer that has no place
pub answer_holds : {A : Type 0} (P : A → Type 0) (answer : Result A Fault) (x : A) → IfOk answer P → answer ≡ Ok x → P x
answer_holds P answer x holds ok = subst (λ r. IfOk r P) ok holds

pub step_fails : {A B : Type 0} (step : Result A Fault) (next : A → Result B Fault) (f : Fault)
    → step ≡ Err f → (step >>= next) ≡ Err f
step_fails step next f is = ap (λ r. r >>= next) is

pub step_passes : {A B : Type 0} (step : Result A Fault) (next : A → Result B Fault) (x : A)
    → step ≡ Ok x → (step >>= next) ≡ next x
step_passes step next x is = ap (λ r. r >>= next) is

-- a value that was read differs from a failure
pub no_fault : {A B : Type 0} (read : Result A Fault) (wanted : Result B Fault) (x : A) (f : Fault)
    → read ≡ Ok x → read ≡ Err f → wanted ≡ Err f
no_fault read wanted x f is err = absurd (cc)

-- what is read at a place, and may want memory
pub placed_memory : {A : Type 0} (place : Place) (read wanted : Result A ConfigError) (located : Result A Fault)
    → IsOrMemory read wanted → located ≡ placed place read → IsOrLacksMemory located (placed place wanted)
placed_memory place read wanted located (inl same) at = inl (at ∙ ap (placed place) same)
placed_memory place read wanted located (inr lacks) at =
    subst (λ r. IsOrLacksMemory r (placed place wanted)) (sym (at ∙ ap (placed place) lacks)) (inr refl)
