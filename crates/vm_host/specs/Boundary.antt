-- A boundary comes before each epoch: what it does to a host, and what a report has of it. In this order the devices are served
-- (OASIS VIRTIO 1.2, section 5.5.6), the spares above the targets come back, the lines are obeyed, the state is found, targets fall
-- (revocation), guests give up frames (paging), targets rise (grants), targets fall for guests that would pay more (rebalancing), and
-- the guests get their orders (Waldspurger, OSDI 2002, section 6.3).
use Rattle.std.specs.Prelude.{◌≡◌, ℕ, List, take}
use Rattle.vm_guest.specs.Boundary.{serviced}
use Rattle.vm_plan.specs.State.{next_state_of}
use Rattle.vm_host.specs.declared.boundary.Boundary.{Boundary}
use Rattle.vm_host.specs.declared.phase.Phase.TheVariants.{Ready, Failed}
use Rattle.vm_host.specs.Answers.{AnswerValue}
use Rattle.vm_host.specs.Commands.{after_lines, answers_to}
use Rattle.vm_pool.specs.Changes.{all_changed, with_orders as all_ordered, with_spares_back}
use Rattle.vm_reclaim.specs.Policy.{Policy, policy_of}
use Rattle.vm_reclaim.specs.Rebalance.{pool_rebalanced, rebalances_in}
use Rattle.vm_reclaim.specs.Reclaim.{blocked_from, counts_of, grants_in, paged_from, pool_granted, pool_paged, pool_revoked, revocations_in, blocks_in}
use Rattle.vm_host.specs.World.{World, with_phase, with_pool}

-- ---- before the lines

-- the host as the lines of a boundary find it: each device is served, the spares above the targets are back, and it counts as ready
abbrev pub opened_boundary : World → World
opened_boundary w = record w { pool = with_spares_back (all_changed serviced w.pool); phase = Ready }

-- ---- after the lines

-- the state that follows the old one at these free frames
abbrev pub with_state_found : Policy → World → World
with_state_found policy w = record w { state = next_state_of w.state w.pool.free policy.thresholds }

-- the revocations of a host whose state is found
abbrev pub revocations : Policy → World → List ℕ
revocations policy w = revocations_in policy w.state w.pool

abbrev pub with_revocations : Policy → World → World
with_revocations policy w = with_pool w (pool_revoked policy w.state w.pool)

abbrev pub page_counts : Policy → World → List ℕ
page_counts policy w = counts_of w.state policy.page_rate w.pool.guests

abbrev pub with_paging : Policy → World → World
with_paging policy w = with_pool w (pool_paged policy w.state w.pool)

abbrev pub grants : Policy → World → List ℕ
grants policy w = grants_in policy w.state w.pool

abbrev pub with_grants : Policy → World → World
with_grants policy w = with_pool w (pool_granted policy w.state w.pool)

-- a host whose state is found, once targets rose
abbrev pub after_grants : Policy → World → World
after_grants policy w = with_grants policy (with_paging policy (with_revocations policy w))

-- the guests whose targets fall for guests that would pay more, once targets rose
abbrev pub rebalances : Policy → World → List ℕ
rebalances policy w = rebalances_in policy w.state w.pool

abbrev pub with_rebalancing : Policy → World → World
with_rebalancing policy w = with_pool w (pool_rebalanced policy w.state w.pool)

-- each guest gets its orders for the epoch
abbrev pub with_orders : World → World
with_orders w = with_pool w (all_ordered (blocks_in w.state) w.pool)

-- the host that its lines left, once all that follows is done
abbrev pub finished : Policy → World → World
finished policy w = with_orders (with_rebalancing policy (after_grants policy (with_state_found policy w)))

-- ---- the whole

-- the host once the lines are obeyed and the state is found
abbrev pub settled : Policy → World → List (List ℕ) → World
settled policy w lines = with_state_found policy (after_lines policy (opened_boundary w) lines)

-- the host after a boundary with these lines, by a policy
abbrev pub past_boundary_by : Policy → World → List (List ℕ) → World
past_boundary_by policy w lines = finished policy (after_lines policy (opened_boundary w) lines)

-- by that of its machine
abbrev pub past_boundary : World → List (List ℕ) → World
past_boundary w lines = past_boundary_by (policy_of w.machine) w lines

-- ---- where memory is refused

-- the host failed in a boundary with these lines: the devices are served, the spares are back, the first of the lines are obeyed,
-- however many, and nothing else was done
pub record FailsAfterSome (old : World) (lines : List (List ℕ)) (new : World) : Type 0 where
  pub count : ℕ
  pub is : new ≡ with_phase (after_lines (policy_of old.machine) (opened_boundary old) (take count lines)) Failed

-- ---- what it did

-- what was done to the host that its lines left, with the answers to these: the free frames are those that the state was found from
abbrev pub done_after_lines : Policy → World → List AnswerValue → Boundary
done_after_lines policy w answers =
    let settled_world = with_state_found policy w in
    let revoked_world = with_revocations policy settled_world in
    let paged_world = with_paging policy revoked_world in
    let granted_world = with_grants policy paged_world in
    record {
      answers = answers;
      state = settled_world.state;
      free = settled_world.pool.free;
      revoked = revocations policy settled_world;
      paged = paged_from 0 (page_counts policy revoked_world);
      granted = grants policy paged_world;
      rebalanced = rebalances policy granted_world;
      blocked = blocked_from 0 (finished policy w).pool.guests;
    }

-- what the boundary did, for the report
abbrev pub boundary_done : Policy → World → List (List ℕ) → Boundary
boundary_done policy w lines = done_after_lines policy (after_lines policy (opened_boundary w) lines) (answers_to policy (opened_boundary w) lines)

abbrev pub boundary_of : World → List (List ℕ) → Boundary
boundary_of w lines = boundary_done (policy_of w.machine) w lines
