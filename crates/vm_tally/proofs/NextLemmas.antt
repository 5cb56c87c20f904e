-- A summary of one epoch more.
use Rattle.std.proofs.Common.{◌≡◌, ℕ, suc, ◌+◌, max, min, arith, ap, ◌∙◌, refl}
use Rattle.vm_config.specs.declared.config.Config.{Config}
use Rattle.vm_guest.specs.Record.{saturated}
use Rattle.vm_host.specs.declared.boundary.Boundary.{Boundary}
use Rattle.vm_host.specs.World.{World}
use Rattle.vm_runs.specs.Course.{Run}
use Rattle.vm_sim.specs.Course.{after_boundary, boundary_at, course_of, ready_world, world_after}
use Rattle.vm_tally.specs.declared.summary.Summary.{Summary}
use Rattle.vm_tally.specs.Counting.{sum_over}
use Rattle.vm_tally.specs.Counts.{executed_by, over_guests, swapped_of}
use Rattle.vm_tally.specs.Summary.{after_in, blocked_in, done_in, evicted_in, granted_in, hard_in, high_in, low_in, no_memory_in, no_swap_in, paged_in, ready_in, rebalanced_in, revoked_in, sent_in, soft_in, stalls_in, summary_after, told_in}
use Rattle.vm_tally.specs.Tally.{with_boundary, with_epoch}
use Rattle.vm_tally.proofs.SumLemmas.{saturated_more}
use Rattle.vm_tally.proofs.WorstLemmas.{worst_next}

least_more : (a b c : ℕ) → min (min a b) c ≡ min a (min b c)
least_more a b c = omega arith

pub greatest_more : (a b c : ℕ) → max (max a b) c ≡ max a (max b c)
greatest_more a b c = omega arith

pub sum_next : (number : ℕ → ℕ) (k : ℕ) → saturated (saturated (sum_over number k) + number k) ≡ saturated (sum_over number (suc k))
sum_next number k = saturated_more (sum_over number k) (number k)

pub summary_next : (course : Run) (k : ℕ)
    → with_epoch k (over_guests executed_by (ready_in course k)) (after_in course k)
    (with_boundary (told_in course k) (ready_in course k) (summary_after course k))
    ≡ summary_after course (suc k)
unfolding summary_after after_in
summary_next course k = λ i. record {
  high = sum_next (high_in course) k i;
  soft = sum_next (soft_in course) k i;
  hard = sum_next (hard_in course) k i;
  low = sum_next (low_in course) k i;
  least_free = least_more (summary_after course k).least_free (told_in course k).free (after_in course k).pool.free i;
  no_memory = sum_next (no_memory_in course) k i;
  no_swap = sum_next (no_swap_in course) k i;
  revoked = sum_next (revoked_in course) k i;
  paged = sum_next (paged_in course) k i;
  evicted = sum_next (evicted_in course) k i;
  granted = sum_next (granted_in course) k i;
  rebalanced = sum_next (rebalanced_in course) k i;
  blocked = sum_next (blocked_in course) k i;
  stalls = sum_next (stalls_in course) k i;
  done = sum_next (done_in course) k i;
  left = (summary_after course (suc k)).left;
  most_swapped = greatest_more (summary_after course k).most_swapped (over_guests swapped_of (ready_in course k))
      (over_guests swapped_of (after_in course k)) i;
  swapped = (summary_after course (suc k)).swapped;
  balloon = (summary_after course (suc k)).balloon;
  most_evicted = (summary_after course (suc k)).most_evicted;
  worst = worst_next (sent_in course) k i;
}

-- ---- in the words of a run

pub told_same : (c : Config) (k : ℕ) → boundary_at c k ≡ told_in (course_of c) k
unfolding told_in
told_same c k = refl

pub ready_same : (c : Config) (k : ℕ) → ready_world c k ≡ ready_in (course_of c) k
unfolding ready_in after_boundary
ready_same c k = refl

pub after_same : (c : Config) (k : ℕ) → world_after c (suc k) ≡ after_in (course_of c) k
unfolding after_in
after_same c k = refl

-- the summary of a run that went on by a boundary, which told this and left this host, and by an epoch
pub summary_more : (c : Config) (k : ℕ) (told : Boundary) (ready after : World) (before : ℕ) (old between new : Summary)
    → told ≡ boundary_at c k → ready ≡ ready_world c k → after ≡ world_after c (suc k) → old ≡ summary_after (course_of c) k
    → before ≡ over_guests executed_by ready → between ≡ with_boundary told ready old → new ≡ with_epoch k before after between
    → new ≡ summary_after (course_of c) (suc k)
summary_more c k told ready after before old between new told_is ready_is after_is old_is before_is between_is new_is =
    let now_told : told ≡ told_in (course_of c) k = told_is ∙ told_same c k in
    let now_ready : ready ≡ ready_in (course_of c) k = ready_is ∙ ready_same c k in
    let now_after : after ≡ after_in (course_of c) k = after_is ∙ after_same c k in
    let now_before : before ≡ over_guests executed_by (ready_in (course_of c) k) = before_is ∙ ap (over_guests executed_by) now_ready in
    let now_between : between ≡ with_boundary (told_in (course_of c) k) (ready_in (course_of c) k) (summary_after (course_of c) k) =
    between_is ∙ (λ i. with_boundary (now_told i) (now_ready i) (old_is i)) in
    new_is ∙ (λ i. with_epoch k (now_before i) (now_after i) (now_between i)) ∙ summary_next (course_of c) k
