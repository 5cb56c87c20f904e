-- A run as rounds of guests' epochs on any number of workers, with a boundary before each round (this project's profile). What a
-- worker does in one step is that of a round of jobs, whose pieces are those of guests' epochs.
use Rattle.std.specs.Prelude.{◌≡◌, ◌≢◌, ℕ, suc, ◌<◌, ◌≤◌, ◌++◌, Bool, true, false, ◌&&◌, nat_lt, List, [], ◌∷◌, map, length, Option, Some, None, slice_get, if◌then◌else◌}
use Rattle.std.specs.List.{All}
use Rattle.std.specs.Option.{option_map}
use Rattle.vm_board.specs.Rounds.{Event, Place, waiting, with_worker, done, Entry, start, held_by, happens, StandsAt, IsDone, LeavesOthers}
use Rattle.vm_board.specs.Values.{values}
use Rattle.vm_guest.specs.Epoch.{epoch}
use Rattle.vm_guest.specs.Good.{IsGood}
use Rattle.vm_guest.specs.Happenings.{Happening, epoch_happenings, reads_by, IsWrittenBy}
use Rattle.vm_guest.specs.Pieces.{piece, pieces, pieces_happenings}
use Rattle.vm_guest.specs.Record.{GuestRecord}
use Rattle.vm_host.specs.declared.phase.Phase.TheVariants.{Waiting}
use Rattle.vm_host.specs.Boundary.{past_boundary_by}
use Rattle.vm_runs.specs.Course.{Run, guests_of, history_left, host_after, host_left, run_of, with_guests}
use Rattle.vm_domains.specs.Domains.{Domain}
use Rattle.vm_domains.specs.Limits.{AreWithinLimits}
use Rattle.vm_sound.specs.Written.{happenings_at}
use Rattle.vm_domains.specs.Machine.{MachineConfig, IsMachine}
use Rattle.vm_host.specs.World.{World, Conserves}

-- ---- the core of a run

pub data RunEvent : Type 0 where
  -- a worker draws, does a piece or finishes
  work : Event → RunEvent
  -- one thread does the next boundary
  boundary : RunEvent

pub record Core : Type 0 where
  -- the host that the last boundary left, or the first host
  pub host : World
  -- the numbers of this round, which are its running guests in order: the record that the boundary left, where the number stands,
  -- and the record as it is now
  pub round : List (Entry GuestRecord)
  -- how many boundaries were done
  pub boundaries : ℕ

-- before the first boundary there is no number
abbrev pub first_core : Run → Core
first_core r = record { host = r.first; round = []; boundaries = 0 }

-- by position in the list of domains: the number of the guest that runs there, if one does
abbrev pub numbered : List (Option GuestRecord) → List (Entry GuestRecord) → List (Option (Entry GuestRecord))
numbered [] round = []
numbered (None ∷ guests) round = None ∷ numbered guests round
numbered (Some g ∷ guests) [] = None ∷ numbered guests []
numbered (Some g ∷ guests) (e ∷ round) = Some e ∷ numbered guests round

abbrev pub numbers_of : Core → List (Option (Entry GuestRecord))
numbers_of core = numbered (guests_of core.host) core.round

-- the host as it is now, inside a round too
abbrev pub host_now : Core → World
host_now core = with_guests core.host (map (option_map (λ e. e.job)) (numbers_of core))

-- the host as the next boundary finds it
abbrev pub host_found : Core → World
host_found core = record (host_now core) { phase = Waiting }

abbrev pub is_done : Place → Bool
is_done waiting = false
is_done (with_worker w k) = false
is_done done = true

-- every number is done
abbrev pub all_done : List (Entry GuestRecord) → Bool
all_done [] = true
all_done (e ∷ round) = is_done e.place && all_done round

-- the host that the next boundary leaves
abbrev pub next_host : Run → Core → World
next_host r core = past_boundary_by r.policy (host_found core) (r.lines core.boundaries)

-- the boundary is done, and the running guests are the numbers of a new round, all waiting
abbrev pub next_round : Run → Core → Core
next_round r core = record {
  host = next_host r core;
  round = start (values (guests_of (next_host r core)));
  boundaries = suc core.boundaries;
}

-- what tells that a round is over
module _ (is_over : List (Entry GuestRecord) → Bool) (r : Run) where
  -- the core after an event, which changes nothing where it does not apply
  abbrev pub goes_on : RunEvent → Core → Core
  goes_on (work event) core = record core { round = happens pieces piece event core.round }
  goes_on boundary core = if is_over core.round && nat_lt core.boundaries r.epochs then next_round r core else core

  abbrev pub after_run_events : List RunEvent → Core → Core
  after_run_events [] core = core
  after_run_events (event ∷ events) core = after_run_events events (goes_on event core)

  -- the core of the run after these events
  abbrev pub core_after : List RunEvent → Core
  core_after events = after_run_events events (first_core r)

-- ---- what holds at every moment

-- how many pieces of its epoch the number's guest has done
abbrev pub pieces_done : Entry GuestRecord → Place → ℕ
pieces_done e waiting = 0
pieces_done e (with_worker w k) = k
pieces_done e done = pieces e.put

-- what happened to the number's guest in its round so far
abbrev pub happenings_so_far : Entry GuestRecord → List Happening
happenings_so_far e = pieces_happenings (pieces_done e e.place) e.put

-- what holds of a number's guest, to which this happened before the round
pub record IsRightNow (before : List Happening) (e : Entry GuestRecord) : Type 0 where
  pub good : IsGood e.job
  -- each byte of its memory is that of the last write
  pub written : IsWrittenBy (before ++ happenings_so_far e) e.job
  -- and so is each byte that it read in the round
  pub reads : e.job.reads ≡ reads_by before (happenings_so_far e)

-- what holds of a core of the run
pub record IsRight (r : Run) (core : Core) : Type 0 where
  pub few : core.boundaries ≤ r.epochs
  -- the last boundary left the host that it leaves where one worker serves the guests in order
  pub host : core.host ≡ host_left r core.boundaries
  -- each running guest is one number, in order, and began the round with the record that the boundary left
  pub numbers : map (λ e. e.put) core.round ≡ values (guests_of core.host)
  pub given : map (option_map (λ e. e.put)) (numbers_of core) ≡ guests_of core.host
  -- no worker holds two
  pub alone : (worker : ℕ) → held_by worker core.round ≤ 1
  -- the record now is that one with its first pieces done: none where the number waits, all where it is done
  pub stand : All (λ e. StandsAt pieces piece e e.place) core.round
  -- an event of one worker changes no number that another has
  pub apart : LeavesOthers pieces piece core.round
  -- frames free, held and set aside add up to the machine
  pub conserves : Conserves (host_now core)
  pub guests : (position : ℕ) (e : Entry GuestRecord) → slice_get (numbers_of core) position ≡ Some (Some e)
      → IsRightNow (happenings_at (history_left r core.boundaries) position) e
  -- and so it was in each earlier round
  pub earlier : (k position : ℕ) (g : GuestRecord) → k < core.boundaries → slice_get (guests_of (host_left r k)) position ≡ Some (Some g)
      → (epoch g).reads ≡ reads_by (happenings_at (history_left r k) position) (epoch_happenings g)
  -- where all are done, the host is that after the epoch where one worker serves the guests in order
  pub over : All (IsDone pieces piece) core.round → host_found core ≡ host_after r core.boundaries

-- The law of runs: whatever the events and their order, the core is right at every moment. A round is over as is_over tells.
abbrev pub LawOfRuns : (List (Entry GuestRecord) → Bool) → Type 0
LawOfRuns is_over =
    (machine : MachineConfig) (domains : List Domain) (lines : ℕ → List (List ℕ)) (epochs : ℕ) (events : List RunEvent)
    → IsMachine machine
    → AreWithinLimits domains
    → length domains ≤ 256
    → IsRight (run_of machine domains lines epochs) (core_after is_over (run_of machine domains lines epochs) events)

-- ---- a core that does not wait

-- a boundary goes on where all numbers are done, and also while a worker holds one
pub record GoesOnWhileHeld (is_over : List (Entry GuestRecord) → Bool) : Type 0 where
  pub all_are_done : (round : List (Entry GuestRecord)) → all_done round ≡ true → is_over round ≡ true
  pub one_is_held : (round : List (Entry GuestRecord)) (worker : ℕ) → held_by worker round ≡ 1 → is_over round ≡ true

-- a run within the limits, after some events of which the last boundary did not leave what it leaves where one worker serves the
-- guests in order
pub record LeavesAnotherHost (is_over : List (Entry GuestRecord) → Bool) : Type 0 where
  pub machine : MachineConfig
  pub is_machine : IsMachine machine
  pub domains : List Domain
  pub limits : AreWithinLimits domains
  pub few : length domains ≤ 256
  pub lines : ℕ → List (List ℕ)
  pub epochs : ℕ
  pub events : List RunEvent
  pub other : (core_after is_over (run_of machine domains lines epochs) events).host
      ≢ host_left (run_of machine domains lines epochs) (core_after is_over (run_of machine domains lines epochs) events).boundaries
