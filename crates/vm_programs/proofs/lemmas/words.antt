-- What is said of words that a program does not take.
use Rattle.std.proofs.Common.{◌≡◌, ℕ, List, [], ◌∷◌, Option, Some, None, Result, Ok, Err, IfErr, IfSome, IsErrAnd, inl, inr, refl, sym, subst}
use Rattle.std.specs.Option.{ForSome}
use Rattle.clap.specs.Words.{Text}
use Rattle.clap.specs.declared.error.kind.ErrorKind.{ErrorKind}
use Rattle.vm_programs.specs.Words.{IsStatusUnless}
use Rattle.vm_words.specs.Words.{AreTaken, IsStatusOfWords, Line}

-- a list with a fault is not empty
pub has-fault : (kind : ErrorKind) (kinds : List ErrorKind) → kind ∷ kinds ≡ [] → ⊥
has-fault kind kinds none = absurd cc

-- a program that takes only words of its command line
module _ (line : Line) (words : List Text) (AreObeyed : Type 0) (formed : AreObeyed → AreTaken line words) where
  -- a status of words that are not of the command line
  misformed : (status : ℕ) → IsStatusOfWords line words status → IsStatusUnless AreObeyed status
  misformed status (inl (is, none)) = inl (is, λ obeyed. none (formed obeyed))
  misformed status (inr is) = inr is

  pub passed-on : {T : Type 0} (result : Result T ℕ) (status : ℕ) → IsStatusOfWords line words status
      → IsErrAnd result (λ y. y ≡ status) → IfErr result (IsStatusUnless AreObeyed)
  passed-on (Ok x) status is same = absurd same
  passed-on (Err y) status is same = subst (IsStatusUnless AreObeyed) (sym same) (misformed status is)

module _ {X : Type 0} (P : X → Type 0) where
  pub for-some : (o : Option X) → IfSome o P → ForSome o P
  for-some o holds x is = subst (λ (o : Option X). IfSome o P) is holds

  pub if-some : (o : Option X) → ForSome o P → IfSome o P
  if-some (Some x) holds = holds x refl
  if-some None holds = tt
