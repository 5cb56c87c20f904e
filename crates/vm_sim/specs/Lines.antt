-- The lines of a report. Each ends with a line feed, and numbers are decimal.
use Rattle.std.specs.Prelude.{ℕ, ◌+◌, ◌/◌, ◌%◌, List, [], ◌∷◌, ◌++◌, codes, if◌then◌else◌, nat_lt, Option, Some, None}
use Rattle.std.specs.List.{flat_map}
use Rattle.std.specs.Fmt.{decimal}
use Rattle.vm_balloon.specs.declared.stats.Stats.{Stats}
use Rattle.vm_guest.specs.declared.reads.PageRead.{PageRead}
use Rattle.vm_guest.specs.declared.view.GuestView.{GuestView}
use Rattle.vm_plan.specs.declared.state.State.{State}
use Rattle.vm_plan.specs.State.{state_word}
use Rattle.vm_host.specs.declared.boundary.DomainStatistics.{DomainStatistics}
use Rattle.vm_host.specs.declared.boundary.Outcome.{Outcome}
use Rattle.vm_host.specs.declared.boundary.Outcome.TheVariants.{Done, Refused, Shown}
use Rattle.vm_host.specs.declared.boundary.Refusal.{Refusal}
use Rattle.vm_host.specs.declared.boundary.Refusal.TheVariants.{NoSuchDomain, AlreadyRunning, NotRunning, BadLine, BadSize, BelowMinimum, AboveMaximum, NoMemory, NoSwap}

-- ---- commands

-- the number of a refusal, and its text
abbrev pub refusal_words : Refusal → List ℕ
refusal_words NoSuchDomain = codes "1 no such domain"
refusal_words AlreadyRunning = codes "2 already running"
refusal_words NotRunning = codes "3 not running"
refusal_words BadLine = codes "4 bad line"
refusal_words BadSize = codes "5 bad size"
refusal_words BelowMinimum = codes "6 below minimum"
refusal_words AboveMaximum = codes "7 above maximum"
refusal_words NoMemory = codes "8 no memory to reserve"
refusal_words NoSwap = codes "9 no swap to reserve"

-- a name of virsh dommemstat, and its number
unfoldable pub number_line : List ℕ → ℕ → List ℕ
number_line name number = name ++ (codes " " ++ (decimal number ++ codes "\n"))

-- a count, if the driver told it
abbrev pub count_line : List ℕ → Option ℕ → List ℕ
count_line name None = []
count_line name (Some count) = number_line name count

-- a number of bytes in KiB, rounded down, if the driver told it
abbrev pub memory_line : List ℕ → Option ℕ → List ℕ
memory_line name None = []
memory_line name (Some bytes) = number_line name (bytes / 1024)

-- what the driver told of swapping and of faults
unfoldable pub fault_lines : Stats → List ℕ
fault_lines s =
    memory_line (codes "swap_in") s.swap_in ++ (memory_line (codes "swap_out") s.swap_out
    ++ (count_line (codes "major_fault") s.major_faults ++ count_line (codes "minor_fault") s.minor_faults))

-- what the driver told of memory, in virsh's words: free is `unused`, total is `available`, available is `usable`
unfoldable pub memory_lines : Stats → List ℕ
memory_lines s =
    memory_line (codes "unused") s.free ++ (memory_line (codes "available") s.total ++ memory_line (codes "usable") s.available)

-- virsh dommemstat
unfoldable pub statistics_lines : DomainStatistics → List ℕ
statistics_lines d =
    number_line (codes "actual") d.actual ++ (fault_lines d.stats ++ (memory_lines d.stats ++ number_line (codes "rss") d.rss))

unfoldable pub outcome_lines : Outcome → List ℕ
outcome_lines Done = codes "ok\n"
outcome_lines (Refused refusal) = codes "error " ++ (refusal_words refusal ++ codes "\n")
outcome_lines (Shown statistics) = statistics_lines statistics

-- the line as it was given
unfoldable pub command_line : List ℕ → List ℕ
command_line line = codes "> " ++ (line ++ codes "\n")

-- ---- what happens to guests in a boundary

-- what happens, the guest, and how often
unfoldable pub move_line : List ℕ → List ℕ → ℕ → List ℕ
move_line move name count = move ++ (codes " " ++ (name ++ (codes " " ++ (decimal count ++ codes "\n"))))

unfoldable pub block_line : List ℕ → List ℕ
block_line name = codes "block " ++ (name ++ codes "\n")

-- ---- the machine's state

unfoldable pub state_line : State → ℕ → List ℕ
state_line state free = codes "state " ++ (state_word state ++ (codes " free " ++ (decimal free ++ codes "\n")))

-- ---- reads

-- a digit from 0 to 15, in lower case
abbrev pub hex_digit : ℕ → ℕ
hex_digit d = if nat_lt d 10 then 48 + d else 87 + d

-- a byte as two digits
abbrev pub hex_byte : ℕ → List ℕ
hex_byte b = hex_digit (b / 16) ∷ hex_digit (b % 16) ∷ []

abbrev pub hex : List ℕ → List ℕ
hex bytes = flat_map hex_byte bytes

-- the guest, the page, the offset and the bytes
unfoldable pub read_line : List ℕ → PageRead → List ℕ
read_line name r =
    name ++ (codes " r " ++ (decimal r.page ++ (codes " " ++ (decimal r.offset ++ (codes " " ++ (hex r.bytes ++ codes "\n"))))))

-- the guest, and the page on which it stalled
unfoldable pub stall_line : List ℕ → ℕ → List ℕ
stall_line name page = name ++ (codes " stall " ++ (decimal page ++ codes "\n"))

-- ---- a guest at the end

unfoldable pub guest_line : List ℕ → GuestView → List ℕ
guest_line name g =
    name ++ (codes " target " ++ (decimal g.target ++ (codes " held " ++ (decimal g.held
    ++ (codes " swapped " ++ (decimal g.swapped ++ (codes " balloon " ++ (decimal g.balloon
    ++ (codes " active " ++ (decimal g.active ++ (codes " bad " ++ (decimal g.bad
    ++ (codes " done " ++ (decimal g.done ++ codes "\n"))))))))))))))
