-- Texts with a comma behind each.
use Rattle.std.specs.Prelude.{ℕ, ◌-◌, List, [], ◌∷◌, ◌++◌, codes, length, map, nat_lt, take, if◌then◌else◌}
use Rattle.std.specs.Fmt.{decimal}
use Rattle.vm_recorded.specs.Commands.{commands_from}
use Rattle.vm_recorded.specs.Hosts.{GuestView}
use Rattle.vm_recorded.specs.Texts.{guest_texts, listed, quoted}

-- a comma behind each part, also behind the last one
abbrev pub ended : List (List ℕ) → List ℕ
ended [] = []
ended (part ∷ parts) = part ++ (44 ∷ ended parts)

-- without the last comma, of parts that stand from here on
abbrev pub without_comma : (start : ℕ) → (text : List ℕ) → List ℕ
without_comma start text = if nat_lt start (length text) then take (length text - 1) text else text

-- steps in quotes, a comma behind each
abbrev pub ended_steps : List (List ℕ) → List ℕ
ended_steps steps = ended (map quoted steps)

-- a number behind its label
unfoldable pub labelled : (label : List ℕ) → ℕ → List ℕ
labelled label number = label ++ decimal number

-- a command up to its line
abbrev pub opened_at : (at : ℕ) → List ℕ
opened_at at = codes "{\"at\":" ++ (decimal at ++ codes ",\"line\":\"")

-- the commands of so many epochs, with a comma between each two
unfoldable pub listed_commands : (unit epochs : ℕ) → List GuestView → List ℕ
listed_commands unit epochs guests = listed (commands_from unit 0 epochs guests)

-- guests, with a comma between each two
unfoldable pub listed_guests : (quantum : ℕ) → List GuestView → List ℕ
listed_guests quantum guests = listed (guest_texts quantum 0 guests)
