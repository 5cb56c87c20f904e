-- Commands that never run, or are refused whenever they come.
use Rattle.std.specs.Prelude.{ℕ, List, [], ◌∷◌, ◌++◌, if◌then◌else◌, nat_lt}
use Rattle.vm_config.specs.declared.place.Key.{Key}
use Rattle.vm_config.specs.declared.place.Key.TheVariants.{At, Line}
use Rattle.vm_config.specs.declared.place.Part.TheVariants.{Command}
use Rattle.vm_check.specs.declared.finding.Finding.{Finding}
use Rattle.vm_check.specs.declared.order.Asked.{Asked}
use Rattle.vm_check.specs.declared.order.Asked.TheVariants.{Of, Wrong}
use Rattle.vm_check.specs.declared.order.Order.{Order}
use Rattle.vm_check.specs.declared.place.FindingPlace.TheVariants as place
use Rattle.vm_check.specs.declared.what.What.{What}
use Rattle.vm_check.specs.declared.what.What.TheVariants.{NeverRuns, Refused}

-- at a key of the command of a number
abbrev pub finding_at : ℕ → Key → What → Finding
finding_at number key what = record { place = place.Key (Command number) key; what = what }

-- a run of so many epochs has those from 0 on that are below their number
abbrev pub at_findings : (epochs number at : ℕ) → List Finding
at_findings epochs number at = if nat_lt at epochs then [] else finding_at number At (NeverRuns at epochs) ∷ []

abbrev pub line_findings : ℕ → Asked → List Finding
line_findings number (Of guest ask) = []
line_findings number (Wrong wrong) = finding_at number Line (Refused wrong) ∷ []

abbrev pub command_findings : (epochs number : ℕ) → Order → List Finding
command_findings epochs number order = at_findings epochs number order.at ++ line_findings number order.asked
