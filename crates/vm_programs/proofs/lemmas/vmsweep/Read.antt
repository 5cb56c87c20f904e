-- What is read of a list, and of the values of one.
use Rattle.std.proofs.Common.{◌≡◌, ◌∙◌, ◌⊎◌, ℕ, List, Option, Some, None, Result, Ok, inl, inr, refl, ap, slice_get, slice_index, unwrap_or}
use Rattle.std.proofs.lemmas.Option.{unwrap_or-slice_get}
use Rattle.clap.specs.Words.{Row, Text}
use Rattle.vm_lists.specs.Lists.{IsFaultOf, list_of}
use Rattle.vm_lists.specs.declared.bounds.Limits.{Limits}
use Rattle.vm_lists.specs.declared.faults.ListFault.{ListFault}
use Rattle.vm_lists.specs.declared.faults.ListFaultKind.{ListFaultKind}
use Rattle.vm_lists.specs.declared.faults.ListFaultKind.TheVariants.{NoItem, OutsideRange, EndsBelow, NoStep, Memory}
use Rattle.vm_words.specs.Words.{text_of}
use Rattle.vm_programs.specs.vmsweep.Keys.{limits_of, word_of}
use Rattle.vm_programs.specs.vmsweep.Lists.{given, for_key}
use Rattle.vm_programs.specs.vmsweep.Refused.{IsFirstOf}
use Rattle.vm_programs.specs.declared.vmsweep.faults.SweepFault.{SweepFault}
use Rattle.vm_programs.specs.declared.vmsweep.faults.SweepFault.TheVariants.{BadList}
use Rattle.vm_programs.specs.declared.vmsweep.keys.SweptKey.{SweptKey}

pub value_read : (values : List ℕ) (i : ℕ) → unwrap_or (slice_get values i) 0 ≡ slice_index values i
value_read values i = unwrap_or-slice_get values i 0

module _ (key : SweptKey) (rows : List Row) (word : Text) (is : word ≡ word_of key) where
  pub given-none : None ≡ text_of word rows → given key rows ≡ Ok None
  unfolding given
  given-none none = rw (← is, ← none) refl

  pub given-some : (text : Text) (limits : Limits) → limits ≡ limits_of key → Some text ≡ text_of word rows
      → given key rows ≡ for_key key (list_of limits text)
  unfolding given
  given-some text limits same some = rw (← is, ← some, ← same) refl

is-memory : (kind : ListFaultKind) → (kind ≡ Memory) ⊎ (kind ≡ Memory → ⊥)
is-memory NoItem = inr (λ e. absurd cc)
is-memory (OutsideRange limits) = inr (λ e. absurd cc)
is-memory EndsBelow = inr (λ e. absurd cc)
is-memory NoStep = inr (λ e. absurd cc)
is-memory Memory = inl refl

-- the fault of a key's list is what the key is given
pub first_fault : (key : SweptKey) (meaning : Result (Option (List ℕ)) SweepFault) (read : Result (List ℕ) ListFault) (fault : ListFault)
    → meaning ≡ for_key key read → IsFaultOf read fault → IsFirstOf meaning (BadList key fault)
first_fault key meaning read fault is first =
    elim (is-memory fault.kind) [
      | inl memory ↦ inr memory
      | inr other ↦ inl (is ∙ ap (for_key key) (first.first other))
    ]
