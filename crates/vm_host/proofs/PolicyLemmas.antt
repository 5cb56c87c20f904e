-- Two policies that decide alike give the same boundaries: for callers.
use Rattle.std.proofs.Common.{◌≡◌, ◌∙◌, ℕ, List, [], ◌∷◌, Option, None, Result, Ok, Err, refl, ap, fold, map}
use Rattle.vm_commands.specs.declared.command.Command.{Command}
use Rattle.vm_commands.specs.declared.command.Command.TheVariants.{Start, Destroy, SetMemory, SetMinimum, SetShares, ShowStatistics}
use Rattle.vm_plan.specs.declared.state.State.{State}
use Rattle.vm_plan.specs.declared.thresholds.Thresholds.{Thresholds}
use Rattle.vm_plan.specs.Grants.{Pool, grant_list}
use Rattle.vm_plan.specs.Paging.{page_count_of}
use Rattle.vm_plan.specs.Revocation.{revocation_list, shortfall_of}
use Rattle.vm_plan.specs.Row.{Row}
use Rattle.vm_plan.specs.State.{next_state_of}
use Rattle.vm_host.specs.declared.boundary.Refusal.{Refusal}
use Rattle.vm_reclaim.specs.declared.room.Raise.{Raise}
use Rattle.vm_host.specs.Answers.{AnswerValue}
use Rattle.vm_host.specs.Boundary.{past_boundary_by, boundary_done, finished, after_grants, grants, opened_boundary, page_counts, rebalances, revocations, done_after_lines, with_grants, with_orders, with_paging, with_rebalancing, with_revocations, with_state_found}
use Rattle.vm_reclaim.specs.Rebalance.{rebalances_in}
use Rattle.vm_reclaim.specs.Reclaim.{blocked_from, paged_from}
use Rattle.vm_host.specs.Commands.{after_line, after_lines, answer_to, answers_to, decided, obeyed_by, outcome_of, revocations_by}
use Rattle.vm_reclaim.specs.Room.{lacking_at, needed_to_start, raise_to}
use Rattle.vm_host.specs.Decisions.{Admitted, decision_on_line}
use Rattle.vm_guest.specs.Boundary.{revoked}
use Rattle.vm_pool.specs.Changes.{changed, granted_at, started_at, taken_at, with_released, with_min_at}
use Rattle.vm_pool.specs.Pool.{PoolView}
use Rattle.vm_reclaim.specs.Policy.{Policy}
use Rattle.vm_reclaim.specs.Room.{room_made, revocations_for_room, with_surplus_back}
use Rattle.vm_reclaim.specs.Rows.{plan_pool_of, row_at, rows_of}
use Rattle.vm_host.specs.World.{World, with_pool}

-- the same thresholds, the same paging, and the same lists
pub record DecideAlike (p q : Policy) : Type 0 where
  pub thresholds : p.thresholds ≡ q.thresholds
  pub page_rate : p.page_rate ≡ q.page_rate
  pub revocations : (wanted : ℕ) (rows : List Row) → revocation_list p.tax wanted rows ≡ revocation_list q.tax wanted rows
  pub grants : (state : State) (t : Thresholds) (pool : Pool) → grant_list state t p.tax pool ≡ grant_list state t q.tax pool
  pub rebalances : (state : State) (pool : PoolView) → rebalances_in p state pool ≡ rebalances_in q state pool

module _ (p q : Policy) (alike : DecideAlike p q) where
  revocations_for_room-alike : (raise : Option Raise) (needed : ℕ) (pool : PoolView) → revocations_for_room p.tax raise needed pool ≡ revocations_for_room q.tax raise needed pool
  revocations_for_room-alike raise needed pool = alike.revocations _ _

  room_made-alike : (raise : Option Raise) (needed : ℕ) (pool : PoolView) → room_made p.tax raise needed pool ≡ room_made q.tax raise needed pool
  room_made-alike raise needed pool = ap (λ moves. fold taken_at (with_surplus_back raise needed pool) moves) (revocations_for_room-alike raise needed pool)

  obeyed_by-alike : (pool : PoolView) (position : ℕ) (command : Command) → obeyed_by p.tax pool position command ≡ obeyed_by q.tax pool position command
  obeyed_by-alike pool position (Start domain) = ap (λ room. started_at room position) (room_made-alike None (needed_to_start pool position) pool)
  obeyed_by-alike pool position (SetMinimum domain least) =
      ap (λ room. with_min_at least room position) (room_made-alike (raise_to position least) (lacking_at pool position least) pool)
  obeyed_by-alike pool position (Destroy domain) = refl
  obeyed_by-alike pool position (SetMemory domain cap) = refl
  obeyed_by-alike pool position (SetShares domain shares) = refl
  obeyed_by-alike pool position (ShowStatistics domain) = refl

  revocations_by-alike : (pool : PoolView) (position : ℕ) (command : Command)
      → revocations_by p.tax pool position command ≡ revocations_by q.tax pool position command
  revocations_by-alike pool position (Start domain) = revocations_for_room-alike None (needed_to_start pool position) pool
  revocations_by-alike pool position (SetMinimum domain least) =
      revocations_for_room-alike (raise_to position least) (lacking_at pool position least) pool
  revocations_by-alike pool position (Destroy domain) = refl
  revocations_by-alike pool position (SetMemory domain cap) = refl
  revocations_by-alike pool position (SetShares domain shares) = refl
  revocations_by-alike pool position (ShowStatistics domain) = refl

  decided-alike : (w : World) (decision : Result Admitted Refusal) → decided p w decision ≡ decided q w decision
  decided-alike w (Ok admitted) = ap (with_pool w) (obeyed_by-alike w.pool admitted.position admitted.command)
  decided-alike w (Err refusal) = refl

  answer-alike : (w : World) (line : List ℕ) (decision : Result Admitted Refusal) → answer_to p w line decision ≡ answer_to q w line decision
  answer-alike w line (Ok admitted) =
      ap (λ moves. record { line = line; revocations = moves; outcome = outcome_of w.machine.page w.pool admitted.position admitted.command })
      (revocations_by-alike w.pool admitted.position admitted.command)
  answer-alike w line (Err refusal) = refl

  after_line-alike : (w : World) (line : List ℕ) → after_line p w line ≡ after_line q w line
  after_line-alike w line = decided-alike w (decision_on_line w line)

  after_lines-alike : (w : World) (lines : List (List ℕ)) → after_lines p w lines ≡ after_lines q w lines
  after_lines-alike w [] = refl
  after_lines-alike w (line ∷ lines) =
      ap (λ v. after_lines p v lines) (after_line-alike w line) ∙ after_lines-alike (after_line q w line) lines

  answers-alike : (w : World) (lines : List (List ℕ)) → answers_to p w lines ≡ answers_to q w lines
  answers-alike w [] = refl
  answers-alike w (line ∷ lines) =
      ap (λ a. a ∷ answers_to p (after_line p w line) lines) (answer-alike w line (decision_on_line w line))
      ∙ (ap (λ v. answer_to q w line (decision_on_line w line) ∷ answers_to p v lines) (after_line-alike w line)
      ∙ ap (λ later. answer_to q w line (decision_on_line w line) ∷ later) (answers-alike (after_line q w line) lines))

  state-alike : (w : World) → with_state_found p w ≡ with_state_found q w
  state-alike w = ap (λ t. record w { state = next_state_of w.state w.pool.free t }) alike.thresholds

  revocations-alike : (w : World) → revocations p w ≡ revocations q w
  revocations-alike w =
      ap (λ t. revocation_list p.tax (shortfall_of w.state w.pool.free t (rows_of w.pool.guests)) (rows_of w.pool.guests)) alike.thresholds
      ∙ alike.revocations (shortfall_of w.state w.pool.free q.thresholds (rows_of w.pool.guests)) (rows_of w.pool.guests)

  with_revocations-alike : (w : World) → with_revocations p w ≡ with_revocations q w
  with_revocations-alike w = ap (λ moves. with_pool w (fold (changed revoked) w.pool moves)) (revocations-alike w)

  page_counts-alike : (w : World) → page_counts p w ≡ page_counts q w
  page_counts-alike w = ap (λ rate. map (λ guest. page_count_of w.state (row_at guest) rate) w.pool.guests) alike.page_rate

  with_paging-alike : (w : World) → with_paging p w ≡ with_paging q w
  with_paging-alike w = ap (λ counts. with_pool w (with_released counts w.pool)) (page_counts-alike w)

  grants-alike : (w : World) → grants p w ≡ grants q w
  grants-alike w =
      ap (λ t. grant_list w.state t p.tax (plan_pool_of w.pool)) alike.thresholds
      ∙ alike.grants w.state q.thresholds (plan_pool_of w.pool)

  with_grants-alike : (w : World) → with_grants p w ≡ with_grants q w
  with_grants-alike w = ap (λ moves. with_pool w (fold granted_at w.pool moves)) (grants-alike w)

  rebalances-alike : (w : World) → rebalances p w ≡ rebalances q w
  rebalances-alike w = alike.rebalances w.state w.pool

  with_rebalancing-alike : (w : World) → with_rebalancing p w ≡ with_rebalancing q w
  with_rebalancing-alike w = ap (λ moves. with_pool w (fold (changed revoked) w.pool moves)) (rebalances-alike w)

  -- ---- the stages after the lines

  revoked-alike : (w : World) → with_revocations p (with_state_found p w) ≡ with_revocations q (with_state_found q w)
  revoked-alike w = ap (with_revocations p) (state-alike w) ∙ with_revocations-alike (with_state_found q w)

  paged-alike : (w : World)
      → with_paging p (with_revocations p (with_state_found p w)) ≡ with_paging q (with_revocations q (with_state_found q w))
  paged-alike w = ap (with_paging p) (revoked-alike w) ∙ with_paging-alike (with_revocations q (with_state_found q w))

  granted-alike : (w : World) → after_grants p (with_state_found p w) ≡ after_grants q (with_state_found q w)
  granted-alike w = ap (with_grants p) (paged-alike w) ∙ with_grants-alike (with_paging q (with_revocations q (with_state_found q w)))

  finished-alike : (w : World) → finished p w ≡ finished q w
  finished-alike w =
      ap (λ v. with_orders (with_rebalancing p v)) (granted-alike w)
      ∙ ap with_orders (with_rebalancing-alike (after_grants q (with_state_found q w)))

  told-alike : (w : World) (answers : List AnswerValue) → done_after_lines p w answers ≡ done_after_lines q w answers
  told-alike w answers =
      let found = with_state_found q w in
      let left = with_revocations q found in
      λ i. record {
        answers = answers;
        state = (state-alike w i).state;
        free = (state-alike w i).pool.free;
        revoked = (ap (revocations p) (state-alike w) ∙ revocations-alike found) i;
        paged = paged_from 0 ((ap (page_counts p) (revoked-alike w) ∙ page_counts-alike left) i);
        granted = (ap (grants p) (paged-alike w) ∙ grants-alike (with_paging q left)) i;
        rebalanced = (ap (rebalances p) (granted-alike w) ∙ rebalances-alike (after_grants q found)) i;
        blocked = blocked_from 0 (finished-alike w i).pool.guests;
      }

  -- ---- the whole

  pub bounded-alike : (w : World) (lines : List (List ℕ)) → past_boundary_by p w lines ≡ past_boundary_by q w lines
  bounded-alike w lines =
      ap (finished p) (after_lines-alike (opened_boundary w) lines) ∙ finished-alike (after_lines q (opened_boundary w) lines)

  pub boundary-alike : (w : World) (lines : List (List ℕ)) → boundary_done p w lines ≡ boundary_done q w lines
  boundary-alike w lines =
      (λ i. done_after_lines p (after_lines-alike (opened_boundary w) lines i) (answers-alike (opened_boundary w) lines i))
      ∙ told-alike (after_lines q (opened_boundary w) lines) (answers_to q (opened_boundary w) lines)
