-- The commands of a recorded host: who comes and who goes.
use Rattle.std.specs.Prelude.{ℕ, zero, suc, ◌+◌, ◌*◌, ◌==◌, List, [], ◌∷◌, ◌++◌, codes, nat_lt, if◌then◌else◌}
use Rattle.std.specs.Fmt.{decimal}
use Rattle.vm_recorded.specs.Hosts.{GuestView, HostView, end_of}

-- a command line at an epoch
unfoldable pub command_of : (at : ℕ) → (line : List ℕ) → List ℕ
command_of at line = codes "{\"at\":" ++ (decimal at ++ (codes ",\"line\":\"" ++ (line ++ codes "\"}")))

-- a guest that isn't there any more
abbrev pub goes_at : (at : ℕ) → GuestView → List (List ℕ)
goes_at at g = if end_of g == at then command_of at (codes "destroy " ++ g.name) ∷ [] else []

-- it is started by its command, unless it is there from the beginning
abbrev pub start_at : (at : ℕ) → (name : List ℕ) → List (List ℕ)
start_at zero name = []
start_at (suc at) name = command_of (suc at) (codes "start " ++ name) ∷ []

-- it may have less than its size
abbrev pub capped_at : (unit at : ℕ) → GuestView → List (List ℕ)
capped_at unit at g =
    if nat_lt g.cap g.size then command_of at (codes "setmem " ++ (g.name ++ (codes " " ++ decimal (g.cap * unit)))) ∷ [] else []

-- a guest in its first epoch
abbrev pub comes_at : (unit at : ℕ) → GuestView → List (List ℕ)
comes_at unit at g = if g.first == at then start_at at g.name ++ capped_at unit at g else []

abbrev pub all_go : (at : ℕ) → List GuestView → List (List ℕ)
all_go at [] = []
all_go at (g ∷ guests) = goes_at at g ++ all_go at guests

abbrev pub all_come : (unit at : ℕ) → List GuestView → List (List ℕ)
all_come unit at [] = []
all_come unit at (g ∷ guests) = comes_at unit at g ++ all_come unit at guests

-- the commands of so many epochs from one on
abbrev pub commands_from : (unit at count : ℕ) → List GuestView → List (List ℕ)
commands_from unit at zero guests = []
commands_from unit at (suc count) guests =
    all_go at guests ++ (all_come unit at guests ++ commands_from unit (at + 1) count guests)

-- all commands: in each epoch first who goes, and then who comes, in the order of guests
abbrev pub commands_of : HostView → List (List ℕ)
commands_of host = commands_from host.policy.unit 0 host.epochs host.guests
