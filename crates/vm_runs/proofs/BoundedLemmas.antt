-- At a boundary the memory of each running guest stays that of the last writes, and each guest gets its orders.
use Rattle.std.proofs.Common.{◌≡◌, ◌∙◌, ℕ, List, [], ◌∷◌, ◌++◌, length, Option, Some, None, Result, Ok, Err, slice_get, slice_set, refl, sym, ap, subst, arith}
use Rattle.std.proofs.lemmas.List.{length-map, length-set, set_past}
use Rattle.vm_commands.specs.declared.command.Command.{Command}
use Rattle.vm_commands.specs.declared.command.Command.TheVariants.{Start, Destroy, SetMemory, SetMinimum, SetShares, ShowStatistics}
use Rattle.vm_guest.specs.Boundary.{serviced}
use Rattle.vm_guest.specs.Config.{GuestConfig}
use Rattle.vm_guest.specs.Good.{HasNothingPosted}
use Rattle.vm_guest.specs.Happenings.{Happening, Started, IsWrittenBy}
use Rattle.vm_guest.specs.Start.{started}
use Rattle.vm_guest.proofs.LastWriteLemmas.{last_write-append}
use Rattle.vm_guest.proofs.WrittenLemmas.{started-written}
use Rattle.vm_host.specs.declared.boundary.Refusal.{Refusal}
use Rattle.vm_host.specs.Boundary.{past_boundary_by, opened_boundary, settled}
use Rattle.vm_host.specs.Commands.{after_line, after_lines, decided, obeyed_by}
use Rattle.vm_host.specs.Decisions.{Admitted, decision_on_line}
use Rattle.vm_host.specs.History.{history_after_lines, history_after_service, history_of_command, history_of_decision}
use Rattle.vm_host.specs.Sound.{IsSoundWorld}
use Rattle.vm_host.specs.World.{World}
use Rattle.vm_plan.specs.declared.state.State.{State}
use Rattle.vm_pool.specs.Changes.{all_changed, started_at, with_min_at, with_started}
use Rattle.vm_pool.specs.Guests.{each_changed}
use Rattle.vm_pool.specs.Pool.{PoolView, EachGuest}
use Rattle.vm_reclaim.specs.declared.room.Raise.{Raise}
use Rattle.vm_reclaim.specs.Boundary.{pool_balanced}
use Rattle.vm_reclaim.specs.Policy.{Policy}
use Rattle.vm_reclaim.specs.Rebalance.{rebalances_in}
use Rattle.vm_reclaim.specs.Reclaim.{counts_of, grants_in, pool_granted, pool_paged, pool_revoked, revocations_in, blocks_in}
use Rattle.vm_reclaim.specs.Room.{lacking_at, needed_to_start, raise_to, room_made, surplus_counts, revocations_for_room, with_surplus_back}
use Rattle.vm_runs.proofs.HistoryLemmas.{length-all, one_set, past}
use Rattle.vm_runs.specs.Course.{guests_of, history_by}
use Rattle.vm_sound.specs.Written.{History, happenings_at, AreAll, IsKnown, IsOrdered}
use Rattle.vm_sound.proofs.FramesLemmas.{setup-all_taken}
use Rattle.vm_sound.proofs.ServedLemmas.{served-all_granted, served-all_revoked, served-all_taken, served-orders, served-released, served-serviced, served-spares, served-started, served-stopped, served-with_cap, served-with_min, served-with_shares}
use Rattle.vm_sound.proofs.ToldLemmas.{known-good, known-written, no_reads-orders, ordered-of, told-all_granted, told-all_revoked, told-all_taken, told-orders, told-released, told-serviced, told-spares, told-stopped, told-with_cap, told-with_min, told-with_shares}

-- there is a history for each position, no buffer is posted, and each byte of guest memory is that of the last write
record IsTold (pool : PoolView) (h : History) : Type 0 where
  paired : length h ≡ length pool.configs
  served : EachGuest HasNothingPosted pool
  written : AreAll IsWrittenBy pool.guests h

-- ---- commands

room-told : (policy : Policy) (raise : Option Raise) (needed : ℕ) (pool : PoolView) (h : History) → IsTold pool h → IsTold (room_made policy.tax raise needed pool) h
room-told policy raise needed pool h told =
    let back = with_surplus_back raise needed pool in
    let moves = revocations_for_room policy.tax raise needed pool in
    let same = setup-all_taken moves back in
    record {
      paired = told.paired ∙ sym (ap length same.configs);
      served = served-all_taken moves back (served-released (surplus_counts raise needed pool) pool told.served);
      written = told-all_taken moves back h (told-released (surplus_counts raise needed pool) pool h told.written);
    }

-- a start writes zeros, whatever was before
started-after : (c : GuestConfig) (before : List Happening) → IsWrittenBy (before ++ Started ∷ []) (started c)
started-after c before =
    let zeros = started-written c in
    record { each = λ page offset there short. zeros.each page offset there short ∙ sym (last_write-append before Started page offset) }

started-told : (pool : PoolView) (position : ℕ) (h : History) → IsTold pool h
    → IsTold (started_at pool position) (slice_set h position (happenings_at h position ++ Started ∷ []))
started-told pool position h told = go (slice_get pool.configs position) refl (served-started pool position told.served)
  where
    now : List Happening
    now = happenings_at h position ++ Started ∷ []

    -- where there is no configuration, there is no history
    go : (config : Option GuestConfig) → slice_get pool.configs position ≡ config → EachGuest HasNothingPosted (with_started pool position config)
        → IsTold (with_started pool position config) (slice_set h position now)
    go None is served =
        let end = past pool.configs position is in
        let paired = told.paired in
        subst (λ (history : History). IsTold pool history) (sym (set_past h position now (omega (arith, end, paired)))) told
    go (Some c) is served = record {
      paired = length-set h position now ∙ told.paired;
      served = served;
      written = one_set IsWrittenBy pool.guests h position (started c) now told.written (started-after c (happenings_at h position));
    }

with_min-told : (least : ℕ) (pool : PoolView) (position : ℕ) (h : History) → IsTold pool h → IsTold (with_min_at least pool position) h
with_min-told least pool position h told = record {
  paired = told.paired;
  served = served-with_min least pool position told.served;
  written = told-with_min least pool position h told.written;
}

obeyed_by-told : (policy : Policy) (pool : PoolView) (position : ℕ) (command : Command) (h : History) → IsTold pool h
    → IsTold (obeyed_by policy.tax pool position command) (history_of_command h position command)
obeyed_by-told policy pool position (Start domain) h told =
    let needed = needed_to_start pool position in
    started-told (room_made policy.tax None needed pool) position h (room-told policy None needed pool h told)
obeyed_by-told policy pool position (Destroy domain) h told = record {
  paired = told.paired;
  served = served-stopped pool position told.served;
  written = told-stopped pool position h told.written;
}
obeyed_by-told policy pool position (SetMemory domain cap) h told = record {
  paired = told.paired;
  served = served-with_cap cap pool position told.served;
  written = told-with_cap cap pool position h told.written;
}
obeyed_by-told policy pool position (SetMinimum domain least) h told =
    let needed = lacking_at pool position least in
    with_min-told least (room_made policy.tax (raise_to position least) needed pool) position h (room-told policy (raise_to position least) needed pool h told)
obeyed_by-told policy pool position (SetShares domain shares) h told = record {
  paired = told.paired;
  served = served-with_shares shares pool position told.served;
  written = told-with_shares shares pool position h told.written;
}
obeyed_by-told policy pool position (ShowStatistics domain) h told = told

-- ---- lines

decided-told : (policy : Policy) (w : World) (decision : Result Admitted Refusal) (h : History) → IsTold w.pool h
    → IsTold (decided policy w decision).pool (history_of_decision h decision)
decided-told policy w (Ok admitted) h told = obeyed_by-told policy w.pool admitted.position admitted.command h told
decided-told policy w (Err refusal) h told = told

lines-told : (policy : Policy) (lines : List (List ℕ)) (w : World) (h : History) → IsTold w.pool h
    → IsTold (after_lines policy w lines).pool (history_after_lines policy w h lines)
lines-told policy [] w h told = told
lines-told policy (line ∷ lines) w h told =
    let decision = decision_on_line w line in
    lines-told policy lines (after_line policy w line) (history_of_decision h decision) (decided-told policy w decision h told)

-- ---- before and after the lines

opened_boundary-told : (w : World) (h : History) → IsSoundWorld w → AreAll IsKnown (guests_of w) h → IsTold (opened_boundary w).pool (history_after_service (guests_of w) h)
opened_boundary-told w h sound known =
    let pool = sound.pool in
    let serviced_pool = all_changed serviced w.pool in
    let after = history_after_service (guests_of w) h in
    let written = told-spares serviced_pool after (told-serviced w.pool h (known-good w.pool.guests h known) (known-written w.pool.guests h known)) in
    record {
      paired = length-all IsWrittenBy (opened_boundary w).pool.guests after written
          ∙ (length-map (each_changed serviced w.pool.guests) _ ∙ (length-map w.pool.guests _ ∙ pool.paired));
      served = served-spares serviced_pool (served-serviced w.pool);
      written = written;
    }

reclaimed-told : (policy : Policy) (state : State) (pool : PoolView) (h : History) → IsTold pool h
    → EachGuest HasNothingPosted (pool_balanced policy state pool) × AreAll IsWrittenBy (pool_balanced policy state pool).guests h
reclaimed-told policy state pool h told =
    let revoked_pool = pool_revoked policy state pool in
    let paged_pool = pool_paged policy state revoked_pool in
    let revocations = revocations_in policy state pool in
    let counts = counts_of state policy.page_rate revoked_pool.guests in
    let grants = grants_in policy state paged_pool in
    let granted_pool = pool_granted policy state paged_pool in
    let rebalances = rebalances_in policy state granted_pool in
    let served = served-all_granted grants paged_pool (served-released counts revoked_pool (served-all_revoked revocations pool told.served)) in
    let written = told-all_granted grants paged_pool h (told-released counts revoked_pool h (told-all_revoked revocations pool h told.written)) in (
      served-all_revoked rebalances granted_pool served,
      told-all_revoked rebalances granted_pool h written,
    )

-- what is true of a host once its guests were given their orders
pub record IsGiven (w : World) (h : History) : Type 0 where
  pub served : EachGuest HasNothingPosted w.pool
  pub no_reads : EachGuest (λ g. g.reads ≡ []) w.pool
  pub written : AreAll IsWrittenBy (guests_of w) h

pub bounded-given : (policy : Policy) (w : World) (lines : List (List ℕ)) (h : History) → IsSoundWorld w → AreAll IsKnown (guests_of w) h
    → IsGiven (past_boundary_by policy w lines) (history_by policy w lines h)
bounded-given policy w lines h sound known =
    let found = settled policy w lines in
    let balanced_pool = pool_balanced policy found.state found.pool in
    let blocks = blocks_in found.state in
    let after = history_by policy w lines h in
    let last = reclaimed-told policy found.state found.pool after (lines-told policy lines (opened_boundary w) (history_after_service (guests_of w) h) (opened_boundary-told w h sound known)) in
    record {
      served = served-orders blocks balanced_pool last.0;
      no_reads = no_reads-orders blocks balanced_pool;
      written = told-orders blocks balanced_pool after last.1;
    }

pub given-ordered : (w : World) (h : History) → IsSoundWorld w → IsGiven w h → AreAll IsOrdered (guests_of w) h
given-ordered w h sound given =
    let pool = sound.pool in
    ordered-of (guests_of w) h pool.good given.served given.no_reads given.written
