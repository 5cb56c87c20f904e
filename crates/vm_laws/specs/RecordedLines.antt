-- The command lines of a recorded host.
use Rattle.std.specs.Prelude.{ℕ, zero, suc, ◌+◌, ◌*◌, ◌==◌, List, [], ◌∷◌, ◌++◌, codes, nat_lt, if◌then◌else◌}
use Rattle.std.specs.Fmt.{decimal}
use Rattle.vm_config.specs.Schedule.{ScheduledLine}
use Rattle.vm_recorded.specs.Hosts.{GuestView, HostView, end_of}

-- a guest is destroyed at the epoch behind its last
abbrev pub goes : (at : ℕ) → GuestView → List ScheduledLine
goes at g = if end_of g == at then record { at = at; line = codes "destroy " ++ g.name } ∷ [] else []

-- it is started in its first epoch, unless that is the first of all
abbrev pub starts : (at : ℕ) → (name : List ℕ) → List ScheduledLine
starts zero name = []
starts (suc at) name = record { at = suc at; line = codes "start " ++ name } ∷ []

-- and has its cap then, in KiB
abbrev pub is_capped : (unit at : ℕ) → GuestView → List ScheduledLine
is_capped unit at g =
    if nat_lt g.cap g.size
    then record { at = at; line = codes "setmem " ++ (g.name ++ (codes " " ++ decimal (g.cap * unit))) } ∷ []
    else []

abbrev pub comes : (unit at : ℕ) → GuestView → List ScheduledLine
comes unit at g = if g.first == at then starts at g.name ++ is_capped unit at g else []

abbrev pub those_that_go : (at : ℕ) → List GuestView → List ScheduledLine
those_that_go at [] = []
those_that_go at (g ∷ guests) = goes at g ++ those_that_go at guests

abbrev pub those_that_come : (unit at : ℕ) → List GuestView → List ScheduledLine
those_that_come unit at [] = []
those_that_come unit at (g ∷ guests) = comes unit at g ++ those_that_come unit at guests

-- in each of so many epochs, from one on, first for those that go, and then for those that come
abbrev pub lines_from : (unit at count : ℕ) → List GuestView → List ScheduledLine
lines_from unit at zero guests = []
lines_from unit at (suc count) guests =
    those_that_go at guests ++ (those_that_come unit at guests ++ lines_from unit (at + 1) count guests)

-- the lines of all its epochs
abbrev pub lines_of : HostView → List ScheduledLine
lines_of host = lines_from host.policy.unit 0 host.epochs host.guests
