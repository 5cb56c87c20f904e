-- Each revocation of a boundary takes from a guest above its minimum whose adjusted ratio is least.
use Rattle.std.proofs.Common.{ℕ, ◌-◌, List, [], ◌∷◌, Option, None, Result, Ok, Err}
use Rattle.vm_commands.specs.declared.command.Command.{Command}
use Rattle.vm_commands.specs.declared.command.Command.TheVariants.{Start, Destroy, SetMemory, SetMinimum, SetShares, ShowStatistics}
use Rattle.vm_guest.specs.Good.{IsGood}
use Rattle.vm_host.specs.declared.boundary.Refusal.{Refusal}
use Rattle.vm_host.specs.Boundary.{opened_boundary, revocations, settled}
use Rattle.vm_host.specs.Commands.{after_line, after_lines}
use Rattle.vm_host.specs.Decisions.{Admitted, decision_on_line}
use Rattle.vm_host.specs.Fairness.{AreFairLines, IsFairBoundary, IsFairCommand, IsFairDecision, IsFairRebalancing}
use Rattle.vm_host.specs.Sound.{IsSoundWorld}
use Rattle.vm_host.specs.World.{World}
use Rattle.vm_host.proofs.LineLemmas.{sound-line, sound-lines}
use Rattle.vm_host.proofs.PoolLemmas.{keeps-settled}
use Rattle.vm_host.proofs.RebalanceLemmas.{gives-fairly}
use Rattle.vm_host.proofs.SoundLemmas.{sound-opened_boundary, whole-of}
use Rattle.vm_plan.specs.Revocation.{shortfall_of}
use Rattle.vm_plan.proofs.ListLemmas.{revocation_list-meets}
use Rattle.vm_pool.specs.Pool.{PoolView, EachGuest}
use Rattle.vm_reclaim.specs.declared.room.Raise.{Raise}
use Rattle.vm_reclaim.specs.Boundary.{pool_settled}
use Rattle.vm_reclaim.specs.Fairness.{TakesFairly}
use Rattle.vm_reclaim.specs.Policy.{Policy}
use Rattle.vm_reclaim.specs.Room.{lacking_at, needed_to_start, raise_to, raised, revocations_for_room, with_surplus_back}
use Rattle.vm_reclaim.specs.Rows.{rows_of}
use Rattle.vm_reclaim.proofs.RoomLemmas.{list_of_room}
use Rattle.vm_reclaim.proofs.FairLemmas.{fair-boundary, fair-command, rows-shares}

fair-room : (policy : Policy) (raise : Option Raise) (needed : ℕ) (pool : PoolView) → EachGuest IsGood pool → TakesFairly policy raise needed pool
fair-room policy raise needed pool good =
    let left = with_surplus_back raise needed pool in
    fair-command policy.tax (needed - left.free) (raised raise left) (revocations_for_room policy.tax raise needed pool) (list_of_room policy.tax raise needed pool good)

fair-obeyed : (policy : Policy) (pool : PoolView) (position : ℕ) (command : Command) → EachGuest IsGood pool → IsFairCommand policy pool position command
fair-obeyed policy pool position (Start domain) good = fair-room policy None (needed_to_start pool position) pool good
fair-obeyed policy pool position (SetMinimum domain least) good = fair-room policy (raise_to position least) (lacking_at pool position least) pool good
fair-obeyed policy pool position (Destroy domain) good = tt
fair-obeyed policy pool position (SetMemory domain most) good = tt
fair-obeyed policy pool position (SetShares domain shares) good = tt
fair-obeyed policy pool position (ShowStatistics domain) good = tt

fair-decided : (policy : Policy) (pool : PoolView) (decision : Result Admitted Refusal) → EachGuest IsGood pool → IsFairDecision policy pool decision
fair-decided policy pool (Ok admitted) good = fair-obeyed policy pool admitted.position admitted.command good
fair-decided policy pool (Err refusal) good = tt

fair-lines : (policy : Policy) (w : World) (lines : List (List ℕ)) → IsSoundWorld w → AreFairLines policy w lines
fair-lines policy w [] sound = tt
fair-lines policy w (line ∷ lines) sound = (
  fair-decided policy w.pool (decision_on_line w line) sound.pool.good,
  fair-lines policy (after_line policy w line) lines (sound-line policy w line sound),
)

pub fair-bounded : (policy : Policy) (w : World) (lines : List (List ℕ)) → IsSoundWorld w → IsFairBoundary policy w lines
fair-bounded policy w lines sound =
    let open_sound = sound-opened_boundary w sound in
    let after = sound-lines policy (opened_boundary w) lines open_sound in
    let found = settled policy w lines in
    let rows = rows_of found.pool.guests in
    let wanted = shortfall_of found.state found.pool.free policy.thresholds rows in
    record {
      of_lines = fair-lines policy (opened_boundary w) lines open_sound;
      of_boundary = fair-boundary policy.tax wanted found.pool (revocations policy found)
          (revocation_list-meets policy.tax wanted rows (rows-shares found.pool.guests after.pool.good));
    }

-- so is each page that it moves from guest to guest
pub fair-rebalanced : (policy : Policy) (w : World) (lines : List (List ℕ)) → IsSoundWorld w → IsFairRebalancing policy w lines
fair-rebalanced policy w lines sound =
    let left = after_lines policy (opened_boundary w) lines in
    let after = sound-lines policy (opened_boundary w) lines (sound-opened_boundary w sound) in
    let found = settled policy w lines in
    let kept = keeps-settled w.machine policy found.state left.pool (whole-of left after) in
    record { gives = gives-fairly policy found.state (pool_settled policy found.state left.pool) kept.whole.sound.good }
