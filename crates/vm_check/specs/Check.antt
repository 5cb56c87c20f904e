-- Which lines are told of a text: its findings, or the one fault of a text that is refused.
use Rattle.std.specs.Prelude.{ℕ, zero, suc, ◌+◌, List, [], ◌∷◌, ◌++◌, length, map, Option, Some, None, Result, Ok, Err}
use Rattle.json.specs.Json.{Json}
use Rattle.vm_config.specs.declared.config.Config.{Config}
use Rattle.vm_config.specs.declared.error.ConfigError.{ConfigError}
use Rattle.vm_config.specs.declared.fault.Fault.{Fault}
use Rattle.vm_config.specs.declared.place.Part.{Part}
use Rattle.vm_config.specs.declared.place.Part.TheVariants.{Root, Guest, Command}
use Rattle.vm_config.specs.Located.{config_at}
use Rattle.vm_config.specs.Places.{fault_in}
use Rattle.vm_config.specs.Reading.{config_of}
use Rattle.vm_check.specs.declared.finding.Finding.{Finding}
use Rattle.vm_check.specs.Checked.{Seen, command_findings_at, guest_findings, root_findings, seen_of}
use Rattle.vm_check.specs.Document.{tree_in}
use Rattle.vm_check.specs.Odd.{odd_lines}
use Rattle.vm_check.specs.Refused.{refused_text}
use Rattle.vm_check.specs.Texts.{text_of}

-- ---- a configuration

abbrev pub findings_at : Seen → Part → List Finding
findings_at s Root = root_findings s
findings_at s (Guest number) = guest_findings s number
findings_at s (Command number) = command_findings_at s number

-- its odd keys, where the text has the part
abbrev pub odd_or_none : Option Json → Part → List (List ℕ)
odd_or_none None part = []
odd_or_none (Some j) part = odd_lines part j

-- of a part
abbrev pub part_lines : Option Json → Seen → Part → List (List ℕ)
part_lines j s part = odd_or_none j part ++ map text_of (findings_at s part)

-- of so many parts, whose numbers begin here
abbrev pub numbered_lines : (ℕ → List (List ℕ)) → (number count : ℕ) → List (List ℕ)
numbered_lines lines number zero = []
numbered_lines lines number (suc count) = lines number ++ numbered_lines lines (number + 1) count

-- of the root, guest by guest, and command by command
abbrev pub lines_of : Option Json → Seen → List (List ℕ)
lines_of j s =
    part_lines j s Root
    ++ (numbered_lines (λ number. part_lines j s (Guest number)) 0 (length s.configs)
    ++ numbered_lines (λ number. part_lines j s (Command number)) 0 (length s.orders))

-- ---- a text

abbrev pub config_lines : Option Json → Result Config ConfigError → List (List ℕ)
config_lines j (Ok config) = lines_of j (seen_of config)
config_lines j (Err error) = []

abbrev pub accepted_lines : List ℕ → List (List ℕ)
accepted_lines bytes = config_lines (tree_in bytes) (config_of bytes)

abbrev pub refused_lines : List ℕ → Fault → List (List ℕ)
refused_lines bytes fault = refused_text (tree_in bytes) fault ∷ []

abbrev pub lines_by : List ℕ → Option Fault → List (List ℕ)
lines_by bytes None = accepted_lines bytes
lines_by bytes (Some fault) = refused_lines bytes fault

abbrev pub lines_in : List ℕ → List (List ℕ)
lines_in bytes = lines_by bytes (fault_in (config_at bytes))
