-- What words say to `vmsweep`, by examples.
use Rattle.std.specs.Prelude.{◌≡◌, ℕ, Bool, List, [], ◌∷◌, None, Ok, codes}
use Rattle.clap.specs.Words.{Text}
use Rattle.vm_programs.specs.vmsweep.CommandLine.{form_of, rows_of, sweep_line, workers_of}
use Rattle.vm_programs.specs.vmsweep.Lists.{lists_of}
use Rattle.vm_programs.specs.vmsweep.Refused.{IsRefusal}
use Rattle.vm_programs.specs.vmsweep.Taken.{AreTaken}
use Rattle.vm_programs.specs.declared.vmsweep.asked.Form.{Form}
use Rattle.vm_programs.specs.declared.vmsweep.faults.SweepFault.{SweepFault}
use Rattle.vm_sweep.specs.Combinations.{NamedList, ValueLists}
use Rattle.vm_words.specs.Words.{AreTaken as AreTakenBy, has_flag}

abbrev pub no_lists : ValueLists
no_lists = record {
  frames = None;
  swap = None;
  tax = None;
  page_rate = None;
  rebalance = None;
  min_percent = None;
  minimums = [];
  shares = [];
  seeds = None;
}

-- values for the guest with this name
abbrev pub of_guest : Text → List ℕ → NamedList
of_guest name values = record { name = name; values = values }

-- these words behind the program's name
abbrev pub called : List Text → List Text
called words = codes "vmsweep" ∷ words

-- they are taken, and ask for this
pub record AskFor (words : List Text) (lists : ValueLists) (form : Form) (progress : Bool) (workers : ℕ) : Type 0 where
  pub taken : AreTaken (called words)
  pub lists_are : lists_of (rows_of (called words)) ≡ Ok lists
  pub form_is : form_of (rows_of (called words)) ≡ form
  pub progress_is : has_flag (codes "progress") (rows_of (called words)) ≡ progress
  pub workers_are : workers_of (rows_of (called words)) ≡ workers

-- they have the form of the command line, and this is their first fault
pub record AreRefusedFor (words : List Text) (fault : SweepFault) : Type 0 where
  pub formed : AreTakenBy sweep_line (called words)
  pub first : IsRefusal (rows_of (called words)) fault
  pub untaken : AreTaken (called words) → ⊥

-- they have not the form of the command line, or ask for help
abbrev pub AreRefused : List Text → Type 0
AreRefused words = AreTaken (called words) → ⊥
