-- Which words `vmsweep` takes.
use Rattle.std.specs.Prelude.{◌≡◌, ℕ, ◌≤◌, List, length, Ok}
use Rattle.std.specs.List.Sorted.{IsStrictlyIncreasing}
use Rattle.clap.specs.Words.{Text}
use Rattle.vm_programs.specs.Words.{IsStatusUnless}
use Rattle.vm_programs.specs.vmsweep.CommandLine.{form_of, rows_of, sweep_line}
use Rattle.vm_programs.specs.vmsweep.Lists.{curves, guest_lists, lists_of, machines, runs}
use Rattle.vm_programs.specs.declared.vmsweep.asked.Form.TheVariants.{Drawing}
use Rattle.vm_sweep.specs.Combinations.{ValueLists}
use Rattle.vm_words.specs.Words.{AreTaken as AreTakenBy}

-- a drawing is over machines of which each is larger than the one before it, and it has few curves
pub record CanBeDrawn (lists : ValueLists) : Type 0 where
  pub several : 2 ≤ length (machines lists)
  pub rising : IsStrictlyIncreasing (machines lists)
  pub few : curves lists ≤ 12

-- words that are taken, of which the first is the program's name
pub record AreTaken (words : List Text) : Type 0 where
  -- they are those of the command line
  pub formed : AreTakenBy sweep_line words
  -- each list that is given can be read, and each name in front of one is that of a guest, once
  pub lists : ValueLists
  pub read : lists_of (rows_of words) ≡ Ok lists
  pub few_lists : guest_lists lists ≤ 8
  pub few : runs lists ≤ 10000
  pub drawn : form_of (rows_of words) ≡ Drawing → CanBeDrawn lists

-- words that are not taken have status 2; that memory was refused has 3
abbrev pub IsStatusOfWords : List Text → ℕ → Type 0
IsStatusOfWords words = IsStatusUnless (AreTaken words)
