-- How long the parts of a text are, by what guests come to.
use Rattle.std.specs.Prelude.{ℕ, ◌+◌, List, [], ◌∷◌, ◌++◌, codes, length, max, nat_lt, if◌then◌else◌}
use Rattle.vm_recorded.specs.declared.counts.Counts.{Counts}
use Rattle.vm_recorded.specs.Commands.{capped_at, command_of, commands_from, start_at}
use Rattle.vm_recorded.specs.Hosts.{GuestView, end_of}
use Rattle.vm_recorded.specs.Parts.{ended}
use Rattle.vm_recorded.specs.Texts.{guest_texts}

-- what a guest's going takes, with a comma behind it
unfoldable pub going_bytes : GuestView → ℕ
going_bytes g = length (ended (command_of (end_of g) (codes "destroy " ++ g.name) ∷ []))

-- what its coming takes, with a comma behind each command
unfoldable pub coming_bytes : (unit : ℕ) → GuestView → ℕ
coming_bytes unit g = length (ended (start_at g.first g.name ++ capped_at unit g.first g))

-- what its own commands take among those of so many epochs
abbrev pub own_bytes : (unit epochs : ℕ) → GuestView → ℕ
own_bytes unit epochs g =
    (if nat_lt (end_of g) epochs then going_bytes g else 0) + (if nat_lt g.first epochs then coming_bytes unit g else 0)

-- what those of all guests take
unfoldable pub commands_bytes : (unit epochs : ℕ) → List GuestView → ℕ
commands_bytes unit epochs guests = length (ended (commands_from unit 0 epochs guests))

-- what guests from this place on take, with a comma behind each
unfoldable pub guests_bytes : (quantum number : ℕ) → List GuestView → ℕ
guests_bytes quantum number guests = length (ended (guest_texts quantum number guests))

-- the most steps of an epoch, at least 1
abbrev pub quantum_in : List Counts → ℕ
quantum_in [] = 1
quantum_in (counts ∷ others) = max counts.longest (quantum_in others)
