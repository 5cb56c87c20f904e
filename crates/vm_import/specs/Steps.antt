-- The steps of a trace, as texts.
use Rattle.std.specs.Prelude.{ℕ, ◌+◌, ◌-◌, ◌*◌, ◌/◌, ◌%◌, nat_lt, if◌then◌else◌, List, [], ◌∷◌, ◌++◌, length, map, max, replicate, codes}
use Rattle.std.specs.Fmt.{decimal}
use Rattle.vm_import.specs.declared.touch.RankedTouch.{RankedTouch}
use Rattle.vm_import.specs.Intervals.{rounded_up}

-- a digit below 16, in lower case
abbrev pub hex_digit : ℕ → ℕ
hex_digit digit = if nat_lt digit 10 then 48 + digit else 87 + digit

-- the byte that the interval of this number writes, in two digits
abbrev pub byte_of : ℕ → List ℕ
byte_of number = hex_digit (number % 256 / 16) ∷ hex_digit (number % 256 % 16) ∷ []

-- the step that a touch becomes in the interval of this number: `w PAGE OFFSET XX` or `r PAGE OFFSET 1`
unfoldable pub step_of : ℕ → RankedTouch → List ℕ
step_of number touch =
    (if touch.writes then codes "w " else codes "r ") ++ (decimal touch.rank ++ (codes " " ++ (decimal touch.offset ++ (codes " "
    ++ (if touch.writes then byte_of number else codes "1")))))

-- the steps of the interval of this number
abbrev pub steps_of : ℕ → List RankedTouch → List (List ℕ)
steps_of number kept = map (step_of number) kept

-- idle steps
unfoldable pub idle_steps : ℕ → List (List ℕ)
idle_steps count = replicate count (codes "i")

-- how many idle steps follow so many steps, until their number with these is a multiple of the quantum and not 0
abbrev pub idle_behind : (quantum steps : ℕ) → ℕ
idle_behind quantum steps = rounded_up (max 1 steps) quantum * quantum - steps

-- the steps of intervals from this number on, of which the first is behind so many idle steps
abbrev pub trace_behind : (quantum number idle : ℕ) → List (List RankedTouch) → List (List ℕ)
trace_behind quantum number idle [] = []
trace_behind quantum number idle (kept ∷ others) =
    idle_steps idle ++ (steps_of number kept ++ trace_behind quantum (number + 1) (idle_behind quantum (length kept)) others)

-- the steps of intervals, each but the last one followed by idle steps
unfoldable pub trace_of : ℕ → List (List RankedTouch) → List (List ℕ)
trace_of quantum kept = trace_behind quantum 1 0 kept
