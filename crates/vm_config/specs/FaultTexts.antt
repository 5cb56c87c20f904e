-- What is printed of the place of a fault, and of a fault.
use Rattle.std.specs.Prelude.{ℕ, List, ◌++◌, Option, Some, None, codes}
use Rattle.std.specs.Fmt.{decimal}
use Rattle.vm_trace.specs.TraceError as step
use Rattle.vm_config.specs.declared.error.ConfigError.{ConfigError}
use Rattle.vm_config.specs.declared.error.ConfigError.TheVariants.{NotJson, Missing, Kind, Range, Name, Twice, Trace, Memory}
use Rattle.vm_config.specs.declared.fault.Fault.{Fault}
use Rattle.vm_config.specs.declared.place.Key.{Key}
use Rattle.vm_config.specs.declared.place.Part.{Part}
use Rattle.vm_config.specs.declared.place.Part.TheVariants.{Root, Guest, Command}
use Rattle.vm_config.specs.declared.place.Place.{Place}
use Rattle.vm_config.specs.declared.place.Place.TheVariants as place
use Rattle.vm_config.specs.Places.{name_of}

-- a key of a part
abbrev pub text_of_key : Part → Key → List ℕ
text_of_key Root key = codes "key \"" ++ (name_of key ++ codes "\"")
text_of_key (Guest guest) key = codes "guest " ++ (decimal guest ++ (codes ", key \"" ++ (name_of key ++ codes "\"")))
text_of_key (Command command) key = codes "command " ++ (decimal command ++ (codes ", key \"" ++ (name_of key ++ codes "\"")))

-- a place
abbrev pub text_of : Place → List ℕ
text_of place.Text = codes "the text"
text_of (place.Key part key) = text_of_key part key

-- the text as a whole that is no object, and a value of another kind, whose words are those of the error
abbrev pub kind_at : Place → Option (List ℕ)
kind_at place.Text = Some (codes "the text" ++ codes ": not an object")
kind_at (place.Key part key) = None

-- the error at a place; where its words are those of the error alone, which are derived, no clause tells them
abbrev pub report_at : Place → ConfigError → Option (List ℕ)
report_at p NotJson = None
report_at p Missing = None
report_at p Kind = kind_at p
report_at p Range = None
report_at p Name = None
report_at p Twice = None
report_at p (Trace guest number fault) =
    Some (text_of p ++ (codes ": step " ++ (decimal number ++ (codes ": " ++ step.text_of fault))))
report_at p Memory = None

-- a fault
abbrev pub told : Fault → Option (List ℕ)
told fault = report_at fault.place fault.error
