-- Why words are refused that have the form of the command line.
use Rattle.std.specs.Prelude.{◌≡◌, ◌⊎◌, ◌≤◌, ◌<◌, ◌||◌, ⊤, ℕ, Bool, false, true, List, [], ◌∷◌, length, Option, None, Some, Result, Ok, Err, is_some}
use Rattle.std.specs.List.Sorted.{IsStrictlyIncreasing}
use Rattle.clap.specs.Words.{Row}
use Rattle.vm_lists.specs.declared.faults.ListFaultKind.TheVariants.{Memory as NoMemory}
use Rattle.vm_lists.specs.declared.faults.NamedListFaultKind.TheVariants.{BadList as BadValues}
use Rattle.vm_sweep.specs.Combinations.{NamedList, ValueLists}
use Rattle.vm_programs.specs.vmsweep.CommandLine.{form_of}
use Rattle.vm_programs.specs.vmsweep.Lists.{curves, guest_lists, lists_of, machines, runs}
use Rattle.vm_programs.specs.declared.vmsweep.asked.Form.{Form}
use Rattle.vm_programs.specs.declared.vmsweep.asked.Form.TheVariants.{Drawing}
use Rattle.vm_programs.specs.declared.vmsweep.faults.SweepFault.{SweepFault}
use Rattle.vm_programs.specs.declared.vmsweep.faults.SweepFault.TheVariants.{BadList, BadNamedList, Memory, TooManyLists, TooMany, TooManyRuns, OneMachine, NotRising, TooManyCurves, TooManyOfFour, TooManyOfAll}

-- memory was refused
abbrev pub IsMemory : SweepFault → Type 0
IsMemory (BadList key fault) = fault.kind ≡ NoMemory
IsMemory (BadNamedList key fault) = fault.kind ≡ BadValues NoMemory
IsMemory Memory = ⊤
IsMemory _ = ⊥

-- the fault is that of the lists, but for want of memory
abbrev pub IsFirstOf : {A : Type 0} → Result A SweepFault → SweepFault → Type 0
IsFirstOf meaning fault = (meaning ≡ Err fault) ⊎ IsMemory fault

-- refused words have status 2; that memory was refused has 3
abbrev pub IsStatusOfFault : SweepFault → ℕ → Type 0
IsStatusOfFault fault status = ((status ≡ 2) × (IsMemory fault → ⊥)) ⊎ ((status ≡ 3) × IsMemory fault)

-- ---- lists that are read

-- the fault of too many runs speaks of runs only where seeds are given, and else of combinations
abbrev pub runs_fault : Option ℕ → SweepFault
runs_fault None = TooMany
runs_fault (Some seeds) = TooManyRuns

abbrev pub has_some : {A : Type 0} → List A → Bool
has_some [] = false
has_some (x ∷ xs) = true

-- a loop over guests or seeds is given
abbrev pub has_guest_loop : ValueLists → Bool
has_guest_loop lists = is_some lists.min_percent || has_some lists.minimums || has_some lists.shares || is_some lists.seeds

-- the fault of too many curves names the loops that are given among those of the machine, and all where there are others
abbrev pub curves_fault_of : Bool → Option (List ℕ) → SweepFault
curves_fault_of true rebalance = TooManyOfAll
curves_fault_of false None = TooManyCurves
curves_fault_of false (Some values) = TooManyOfFour

abbrev pub curves_fault : ValueLists → SweepFault
curves_fault lists = curves_fault_of (has_guest_loop lists) lists.rebalance

-- there are machines that rise, and more curves than a drawing has, which is told by this fault
pub record HasTooManyCurves (lists : ValueLists) (fault : SweepFault) : Type 0 where
  pub several : 2 ≤ length (machines lists)
  pub rising : IsStrictlyIncreasing (machines lists)
  pub many : 12 < curves lists
  pub told : curves_fault lists ≡ fault

-- the first fault of a drawing of them
abbrev pub IsFaultOfDrawing : ValueLists → SweepFault → Type 0
IsFaultOfDrawing lists OneMachine = length (machines lists) < 2
IsFaultOfDrawing lists NotRising = (2 ≤ length (machines lists)) × (IsStrictlyIncreasing (machines lists) → ⊥)
IsFaultOfDrawing lists TooManyCurves = HasTooManyCurves lists TooManyCurves
IsFaultOfDrawing lists TooManyOfFour = HasTooManyCurves lists TooManyOfFour
IsFaultOfDrawing lists TooManyOfAll = HasTooManyCurves lists TooManyOfAll
IsFaultOfDrawing lists _ = ⊥

-- there are no more lists for guests than 8, and more runs than 10000, which is told by this fault
pub record HasTooManyRuns (lists : ValueLists) (fault : SweepFault) : Type 0 where
  pub few_lists : guest_lists lists ≤ 8
  pub many : 10000 < runs lists
  pub told : runs_fault lists.seeds ≡ fault

-- the first fault of them
abbrev pub IsFaultOf : Form → ValueLists → SweepFault → Type 0
IsFaultOf form lists TooManyLists = 8 < guest_lists lists
IsFaultOf form lists TooMany = HasTooManyRuns lists TooMany
IsFaultOf form lists TooManyRuns = HasTooManyRuns lists TooManyRuns
IsFaultOf form lists fault = (guest_lists lists ≤ 8) × (runs lists ≤ 10000) × (form ≡ Drawing) × IsFaultOfDrawing lists fault

-- ---- words that have the form of the command line

-- they are refused for their first fault, or memory was
abbrev pub IsRefusal : List Row → SweepFault → Type 0
IsRefusal rows fault =
    IsFirstOf (lists_of rows) fault
    ⊎ ((lists : ValueLists) × (lists_of rows ≡ Ok lists) × IsFaultOf (form_of rows) lists fault)
