-- Where the commands of each epoch stand in a schedule: for private contracts alone.
use Rattle.std.specs.Prelude.{ℕ, suc, ◌≡◌, ◌==◌, ◌<◌, ◌≤◌, List, drop, filter, length, IfSome, slice_get, slice_index_or}
use Rattle.vm_config.specs.Schedule.{ScheduledLine}
use Rattle.vm_host.specs.World.{World}
use Rattle.vm_runs.specs.Course.{Run}
use Rattle.vm_sim.specs.Course.{course_from}
use Rattle.vm_sim.specs.declared.agenda.Agenda.{Agenda}

-- what is asked of the host of a run
pub record RunAgenda : Type 0 where
  pub agenda : Agenda
  -- how many epochs the run has: a command whose epoch isn't below that never runs
  pub epochs : ℕ

-- the course of a host that is asked this
abbrev pub course_asked : RunAgenda → World → Run
course_asked asked w = course_from asked.epochs asked.agenda w

-- the commands of an epoch, in order
abbrev pub of_epoch : ℕ → List ScheduledLine → List ScheduledLine
of_epoch k commands = filter (λ command. command.at == k) commands

-- From one position on, the first command of epoch k stands at another one; where there is none, that is past the end.
pub record IsNextOf (k : ℕ) (commands : List ScheduledLine) (from position : ℕ) : Type 0 where
  pub onward : from ≤ position
  pub passes_none : of_epoch k (drop from commands) ≡ of_epoch k (drop position commands)
  pub is_due : IfSome (slice_get commands position) (λ command. command.at ≡ k)

-- Of the first `count` commands of a run, each one that runs has its epoch among the first `rooms` ones, and stands among the first
-- `places` ones.
abbrev pub HaveRoom : ℕ → List ScheduledLine → ℕ → ℕ → ℕ → Type 0
HaveRoom epochs commands count rooms places =
    (i : ℕ) → i < count → IfSome (slice_get commands i) (λ command. command.at < epochs → (command.at < rooms) × (i < places))

-- Of the commands of a run from a position on, `first` has where the first one of each epoch stands, and `next` where the next one of
-- the same epoch stands for each one that runs. Where a list has no place for one, that is past the end.
pub record IsCalendar (epochs from : ℕ) (commands : List ScheduledLine) (first next : List ℕ) : Type 0 where
  pub has_room : HaveRoom epochs commands (length commands) (length first) (length next)
  pub has_first : (k : ℕ) → k < epochs → IsNextOf k commands from (slice_index_or first k (length commands))
  pub has_next : (i : ℕ) → from ≤ i → IfSome (slice_get commands i)
      (λ command. command.at < epochs → IsNextOf command.at commands (suc i) (slice_index_or next i (length commands)))
