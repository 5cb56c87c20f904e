-- What a command does that is obeyed: the memory commands of virsh, and `memshares`, which is this project's own.
use Rattle.std.specs.Prelude.{◌≡◌, ℕ, ◌-◌, ◌*◌, List, [], ◌∷◌, Option, Some, None, Result, Ok, Err, take}
use Rattle.vm_commands.specs.declared.command.Command.{Command}
use Rattle.vm_commands.specs.declared.command.Command.TheVariants.{Start, Destroy, SetMemory, SetMinimum, SetShares, ShowStatistics}
use Rattle.vm_guest.specs.Boundary.{with_cap, with_shares}
use Rattle.vm_guest.specs.Record.{GuestRecord}
use Rattle.vm_host.specs.declared.boundary.DomainStatistics.{DomainStatistics}
use Rattle.vm_host.specs.declared.boundary.Outcome.{Outcome}
use Rattle.vm_host.specs.declared.boundary.Outcome.TheVariants.{Done, Refused, Shown}
use Rattle.vm_host.specs.declared.boundary.Refusal.{Refusal}
use Rattle.vm_host.specs.Answers.{AnswerValue}
use Rattle.vm_host.specs.Decisions.{Admitted, decision_on_line}
use Rattle.vm_pool.specs.Changes.{changed, started_at, stopped_at, with_min_at}
use Rattle.vm_pool.specs.Guests.{guest_in}
use Rattle.vm_pool.specs.Pool.{PoolView}
use Rattle.vm_tax.specs.Ratio.{Tax}
use Rattle.vm_reclaim.specs.Policy.{Policy}
use Rattle.vm_reclaim.specs.Room.{lacking_at, needed_to_start, raise_to, room_made, revocations_for_room}
use Rattle.vm_host.specs.World.{World, with_pool}

-- ---- room

-- the guests that a command takes a page from, in order, one for each page
abbrev pub revocations_by : Tax → PoolView → ℕ → Command → List ℕ
revocations_by tax pool position (Start domain) = revocations_for_room tax None (needed_to_start pool position) pool
revocations_by tax pool position (SetMinimum domain least) =
    revocations_for_room tax (raise_to position least) (lacking_at pool position least) pool
revocations_by tax pool position (Destroy domain) = []
revocations_by tax pool position (SetMemory domain cap) = []
revocations_by tax pool position (SetShares domain shares) = []
revocations_by tax pool position (ShowStatistics domain) = []

-- ---- effects

-- the pool after a command
abbrev pub obeyed_by : Tax → PoolView → ℕ → Command → PoolView
obeyed_by tax pool position (Start domain) = started_at (room_made tax None (needed_to_start pool position) pool) position
obeyed_by tax pool position (Destroy domain) = stopped_at pool position
obeyed_by tax pool position (SetMemory domain cap) = changed (λ g. with_cap g cap) pool position
obeyed_by tax pool position (SetMinimum domain least) =
    with_min_at least (room_made tax (raise_to position least) (lacking_at pool position least) pool) position
obeyed_by tax pool position (SetShares domain shares) = changed (λ g. with_shares g shares) pool position
obeyed_by tax pool position (ShowStatistics domain) = pool

-- ---- answers

-- What virsh dommemstat prints, where a page stands for so many KiB: `actual` and `rss` in KiB, and what the driver told, its memory in
-- bytes. A driver may tell an `actual` above the guest's size: then 0 is printed.
abbrev pub statistics_of : (page : ℕ) → GuestRecord → DomainStatistics
statistics_of page g = record {
  actual = (g.config.size - g.device.actual) * page;
  rss = g.memory.held * page;
  stats = g.device.stats;
}

abbrev pub shown : (page : ℕ) → Option GuestRecord → Outcome
shown page None = Done
shown page (Some g) = Shown (statistics_of page g)

abbrev pub outcome_of : (page : ℕ) → PoolView → ℕ → Command → Outcome
outcome_of page pool position (ShowStatistics domain) = shown page (guest_in pool.guests position)
outcome_of page pool position (Start domain) = Done
outcome_of page pool position (Destroy domain) = Done
outcome_of page pool position (SetMemory domain cap) = Done
outcome_of page pool position (SetMinimum domain least) = Done
outcome_of page pool position (SetShares domain shares) = Done

-- ---- lines

-- a refused command changes nothing
abbrev pub decided : Policy → World → Result Admitted Refusal → World
decided policy w (Ok admitted) = with_pool w (obeyed_by policy.tax w.pool admitted.position admitted.command)
decided policy w (Err refusal) = w

-- a refused command takes nothing from anybody
abbrev pub revocations_to : Policy → World → Result Admitted Refusal → List ℕ
revocations_to policy w (Ok admitted) = revocations_by policy.tax w.pool admitted.position admitted.command
revocations_to policy w (Err refusal) = []

abbrev pub outcome_to : World → Result Admitted Refusal → Outcome
outcome_to w (Ok admitted) = outcome_of w.machine.page w.pool admitted.position admitted.command
outcome_to w (Err refusal) = Refused refusal

abbrev pub answer_to : Policy → World → List ℕ → Result Admitted Refusal → AnswerValue
answer_to policy w line decision =
    record { line = line; revocations = revocations_to policy w decision; outcome = outcome_to w decision }

-- the host after a line
abbrev pub after_line : Policy → World → List ℕ → World
after_line policy w line = decided policy w (decision_on_line w line)

-- the host after lines, one after the other
abbrev pub after_lines : Policy → World → List (List ℕ) → World
after_lines policy w [] = w
after_lines policy w (line ∷ lines) = after_lines policy (after_line policy w line) lines

-- the host after the first of these lines, however many
pub record IsAfterSome (policy : Policy) (w : World) (lines : List (List ℕ)) (new : World) : Type 0 where
  pub count : ℕ
  pub is : new ≡ after_lines policy w (take count lines)

-- the answer to each line
abbrev pub answers_to : Policy → World → List (List ℕ) → List AnswerValue
answers_to policy w [] = []
answers_to policy w (line ∷ lines) =
    answer_to policy w line (decision_on_line w line) ∷ answers_to policy (after_line policy w line) lines
