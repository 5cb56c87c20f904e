-- What is counted of one boundary, and of the host between a boundary and its epoch and after the epoch.
use Rattle.std.specs.Prelude.{ℕ, ◌+◌, Bool, true, false, length, is_some, if◌then◌else◌}
use Rattle.vm_guest.specs.Memory.{swapped}
use Rattle.vm_guest.specs.Record.{GuestRecord}
use Rattle.vm_host.specs.declared.boundary.Boundary.{Boundary}
use Rattle.vm_host.specs.declared.boundary.Outcome.{Outcome}
use Rattle.vm_host.specs.declared.boundary.Outcome.TheVariants.{Done, Refused, Shown}
use Rattle.vm_host.specs.declared.boundary.Refusal.{Refusal}
use Rattle.vm_host.specs.declared.boundary.Refusal.TheVariants.{NoSuchDomain, AlreadyRunning, NotRunning, BadLine, BadSize, BelowMinimum, AboveMaximum, NoMemory, NoSwap}
use Rattle.vm_host.specs.World.{World, guest_at}
use Rattle.vm_plan.specs.declared.state.State.{State}
use Rattle.vm_plan.specs.declared.state.State.TheVariants.{High, Soft, Hard, Low}
use Rattle.vm_pool.specs.Guests.{of_running}
use Rattle.vm_tally.specs.Counting.{one_if, sum_each, sum_over}

-- ---- the state that a boundary found

abbrev pub is_high : State → Bool
is_high High = true
is_high Soft = false
is_high Hard = false
is_high Low = false

abbrev pub is_soft : State → Bool
is_soft High = false
is_soft Soft = true
is_soft Hard = false
is_soft Low = false

abbrev pub is_hard : State → Bool
is_hard High = false
is_hard Soft = false
is_hard Hard = true
is_hard Low = false

abbrev pub is_low : State → Bool
is_low High = false
is_low Soft = false
is_low Hard = false
is_low Low = true

-- ---- its answers

-- the machine has too few frames for what would be promised: answer 8
abbrev pub is_for_frames : Refusal → Bool
is_for_frames NoMemory = true
is_for_frames NoSwap = false
is_for_frames NoSuchDomain = false
is_for_frames AlreadyRunning = false
is_for_frames NotRunning = false
is_for_frames BadLine = false
is_for_frames BadSize = false
is_for_frames BelowMinimum = false
is_for_frames AboveMaximum = false

-- it has too little swap for that: answer 9
abbrev pub is_for_swap : Refusal → Bool
is_for_swap NoSwap = true
is_for_swap NoMemory = false
is_for_swap NoSuchDomain = false
is_for_swap AlreadyRunning = false
is_for_swap NotRunning = false
is_for_swap BadLine = false
is_for_swap BadSize = false
is_for_swap BelowMinimum = false
is_for_swap AboveMaximum = false

-- a line was refused for such a cause
abbrev pub is_refused : (Refusal → Bool) → Outcome → Bool
is_refused cause Done = false
is_refused cause (Refused refusal) = cause refusal
is_refused cause (Shown statistics) = false

-- how many lines were
abbrev pub refused : (Refusal → Bool) → Boundary → ℕ
refused cause b = sum_each (λ a. one_if (is_refused cause a.outcome)) b.answers

-- ---- what it took and gave

-- the entries of all revocations, those for its lines first
abbrev pub revoked : Boundary → ℕ
revoked b = sum_each (λ a. length a.revocations) b.answers + length b.revoked

-- the frames that guests gave up, spares too
abbrev pub paged : Boundary → ℕ
paged b = sum_each (λ p. p.count) b.paged

-- ---- a host

-- a number of each guest that runs, added up
abbrev pub over_guests : (GuestRecord → ℕ) → World → ℕ
over_guests number w = sum_over (λ position. of_running number (guest_at w position)) (length w.names)

-- the pages that touches of a guest sent to swap in its epoch, for want of a frame: its demand, where it ran
abbrev pub evicted_from : GuestRecord → ℕ
evicted_from g = if g.progress.blocked then 0 else g.allotment.demand

-- whether a guest stalled in its epoch
abbrev pub has_stalled : GuestRecord → ℕ
has_stalled g = one_if (is_some g.progress.stalled_on)

-- the steps of its trace that a guest executed since it started
abbrev pub executed_by : GuestRecord → ℕ
executed_by g = g.progress.position

-- its pages in swap
abbrev pub swapped_of : GuestRecord → ℕ
swapped_of g = swapped g.memory
