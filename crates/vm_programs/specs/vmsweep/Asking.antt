-- The lists of values that words ask for.
use Rattle.std.specs.Prelude.{◌≡◌, List, Ok}
use Rattle.clap.specs.Words.{Text}
use Rattle.vm_sweep.specs.Combinations.{ValueLists}
use Rattle.vm_programs.specs.vmsweep.CommandLine.{rows_of}
use Rattle.vm_programs.specs.vmsweep.Lists.{lists_of}

-- the words ask for these lists
abbrev pub AskFor : List Text → ValueLists → Type 0
AskFor words lists = lists_of (rows_of words) ≡ Ok lists
