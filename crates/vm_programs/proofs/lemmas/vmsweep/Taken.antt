-- Which words are taken, as what was read of them says.
use Rattle.std.proofs.Common.{◌≡◌, ◌∙◌, ℕ, ◌≤◌, ◌<◌, Bool, true, false, List, Option, None, Some, Ok, inl, inr, length, refl, sym, ap, subst, arith}
use Rattle.std.specs.List.Sorted.{IsStrictlyIncreasing}
use Rattle.clap.specs.Words.{Row, Text}
use Rattle.vm_sweep.specs.Combinations.{ValueLists}
use Rattle.vm_words.specs.Words.{AreTaken as AreTakenBy}
use Rattle.vm_programs.specs.vmsweep.CommandLine.{form_of, rows_of, sweep_line}
use Rattle.vm_programs.specs.vmsweep.Lists.{curves, guest_lists, lists_of, machines, runs}
use Rattle.vm_programs.specs.vmsweep.Refused.{HasTooManyCurves, HasTooManyRuns, IsFaultOf, IsFaultOfDrawing, IsMemory, IsRefusal, IsStatusOfFault, curves_fault, curves_fault_of, has_guest_loop, runs_fault}
use Rattle.vm_programs.specs.vmsweep.Taken.{AreTaken, CanBeDrawn, IsStatusOfWords}
use Rattle.vm_programs.specs.declared.vmsweep.asked.Form.{Form}
use Rattle.vm_programs.specs.declared.vmsweep.asked.Form.TheVariants.{Drawing}
use Rattle.vm_programs.specs.declared.vmsweep.faults.SweepFault.{SweepFault}
use Rattle.vm_programs.specs.declared.vmsweep.faults.SweepFault.TheVariants.{BadList, BadNamedList, BadName, Memory, TooManyLists, TooMany, TooManyRuns, OneMachine, NotRising, TooManyCurves, TooManyOfFour, TooManyOfAll}

of_loops : (lists : ValueLists) (loops : Bool) (list : Option (List ℕ)) → HasTooManyCurves lists (curves_fault_of loops list)
    → IsFaultOfDrawing lists (curves_fault_of loops list)
of_loops lists true list is = is
of_loops lists false None is = is
of_loops lists false (Some values) is = is

-- too many curves are a fault, whatever loops are given
pub of_curves : (lists : ValueLists) (found : SweepFault) → found ≡ curves_fault lists → 2 ≤ length (machines lists)
    → IsStrictlyIncreasing (machines lists) → 12 < curves lists → IsFaultOfDrawing lists found
of_curves lists found is several rise many =
    subst (IsFaultOfDrawing lists) (sym is)
    (of_loops lists (has_guest_loop lists) lists.rebalance (record { several = several; rising = rise; many = many; told = refl }))

of_seeds : (form : Form) (lists : ValueLists) (seeds : Option ℕ) → HasTooManyRuns lists (runs_fault seeds) → IsFaultOf form lists (runs_fault seeds)
of_seeds form lists None is = is
of_seeds form lists (Some n) is = is

-- and so are too many runs, whether seeds are given or not
pub of_runs : (form : Form) (lists : ValueLists) (found : SweepFault) → found ≡ runs_fault lists.seeds → guest_lists lists ≤ 8 → 10000 < runs lists
    → IsFaultOf form lists found
of_runs form lists found is few many =
    subst (IsFaultOf form lists) (sym is) (of_seeds form lists lists.seeds (record { few_lists = few; many = many; told = refl }))

-- lists that are taken have no fault
faultless : (form : Form) (lists : ValueLists) (fault : SweepFault) → guest_lists lists ≤ 8 → runs lists ≤ 10000
    → (form ≡ Drawing → CanBeDrawn lists) → IsFaultOf form lists fault → ⊥
faultless form lists (BadList key fault) few_lists few drawn is = is.3
faultless form lists (BadNamedList key fault) few_lists few drawn is = is.3
faultless form lists (BadName key fault) few_lists few drawn is = is.3
faultless form lists Memory few_lists few drawn is = is.3
faultless form lists TooManyLists few_lists few drawn is = omega arith
faultless form lists TooMany few_lists few drawn is = let many = is.many in omega arith
faultless form lists TooManyRuns few_lists few drawn is = let many = is.many in omega arith
faultless form lists OneMachine few_lists few drawn is = let several = (drawn is.2).several in let one = is.3 in omega arith
faultless form lists NotRising few_lists few drawn is = is.3.1 (drawn is.2).rising
faultless form lists TooManyCurves few_lists few drawn is = let few = (drawn is.2).few in let more = is.3.many in omega arith
faultless form lists TooManyOfFour few_lists few drawn is = let few = (drawn is.2).few in let more = is.3.many in omega arith
faultless form lists TooManyOfAll few_lists few drawn is = let few = (drawn is.2).few in let more = is.3.many in omega arith

module _ (words : List Text) (rows : List Row) (same : rows ≡ rows_of words) where
  -- words with a fault are not taken
  pub untaken : (fault : SweepFault) → (IsMemory fault → ⊥) → IsRefusal rows fault → AreTaken words → ⊥
  untaken fault other (inl (inl first)) taken =
      let read = ap lists_of same ∙ taken.read in
      absurd cc
  untaken fault other (inl (inr memory)) taken = other memory
  untaken fault other (inr (lists, read, is)) taken =
      let again = ap lists_of same ∙ taken.read in
      let lists_are : taken.lists ≡ lists = cc in
      faultless (form_of rows) lists fault (subst (λ l. guest_lists l ≤ 8) lists_are taken.few_lists)
      (subst (λ l. runs l ≤ 10000) lists_are taken.few)
      (λ drawing. subst CanBeDrawn lists_are (taken.drawn (ap form_of (sym same) ∙ drawing))) is

  pub refused : (fault : SweepFault) (status : ℕ) → IsRefusal rows fault → IsStatusOfFault fault status → IsStatusOfWords words status
  refused fault status why (inl (is, other)) = inl (is, untaken fault other why)
  refused fault status why (inr (is, memory)) = inr is

  pub taken : (form : Form) (lists : ValueLists) → AreTakenBy sweep_line words → lists_of rows ≡ Ok lists → form ≡ form_of rows
      → guest_lists lists ≤ 8 → runs lists ≤ 10000 → (form ≡ Drawing → CanBeDrawn lists) → AreTaken words
  taken form lists formed read form_is few_lists few drawn = record {
    formed = formed;
    lists = lists;
    read = ap lists_of (sym same) ∙ read;
    few_lists = few_lists;
    few = few;
    drawn = λ drawing. drawn (form_is ∙ ap form_of same ∙ drawing);
  }
