-- What the code shows of values and of its answers.
use Rattle.std.specs.Prelude.{◌≡◌, ⊤, Option, option_map, Result, Ok, Err}
use Rattle.std.specs.Borrow.{Bor}
use Rattle.serde_json.specs.Data.{Data}
use Rattle.vm_json.specs.View.{view}
use Rattle.vm_json.specs.declared.value.Value.{Value}
use Rattle.vm_samples.specs.declared.fault.PolicyError.{PolicyError}
use Rattle.vm_samples.specs.declared.fault.PolicyError.TheVariants.{Fault, Memory}
use Rattle.vm_samples.specs.declared.fault.PolicyFault.{PolicyFault}
use Rattle.vm_samples.specs.declared.fault.Wrong.{Wrong}
use Rattle.vm_samples.specs.declared.place.Place.TheVariants.{Text}

abbrev pub seen : Option (Bor Value) → Option Data
seen found = option_map (λ v. view v.now) found

-- the answer is the one that is wanted, as seen by a view
abbrev pub Answers : {A B E : Type 0} → Result A E → (A → B) → Result B E → Type 0
Answers (Ok x) see wanted = wanted ≡ Ok (see x)
Answers (Err e) see wanted = wanted ≡ Err e

-- the same, or want of memory
abbrev pub AnswersOrMemory : {A B : Type 0} → Result A PolicyError → (A → B) → Result B PolicyFault → Type 0
AnswersOrMemory (Ok x) see wanted = wanted ≡ Ok (see x)
AnswersOrMemory (Err (Fault fault)) see wanted = wanted ≡ Err fault
AnswersOrMemory (Err Memory) see wanted = ⊤

abbrev pub ReadsPolicy : {A : Type 0} → Result A PolicyError → Result A PolicyFault → Type 0
ReadsPolicy result wanted = AnswersOrMemory result (λ x. x) wanted

-- what is wrong with the text as a whole
abbrev pub in_text : Wrong → PolicyFault
in_text wrong = record { place = Text; wrong = wrong }
