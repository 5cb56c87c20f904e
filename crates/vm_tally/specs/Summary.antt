-- What is told of a whole run, in the words of its report and of what it shows (Waldspurger, OSDI 2002, section 6, measures hosts by
-- what they page and whom they let wait, over how much they promise).
use Rattle.std.specs.Prelude.{ℕ, suc, ◌-◌, ◌==◌, ◌&&◌, Bool, length, max, min}
use Rattle.vm_config.specs.declared.config.Config.{Config}
use Rattle.vm_guest.specs.Record.{ballooned, saturated, steps_left}
use Rattle.vm_host.specs.declared.boundary.Boundary.{Boundary}
use Rattle.vm_host.specs.World.{World}
use Rattle.vm_runs.specs.Course.{Run, host_after}
use Rattle.vm_sim.specs.Course.{after_boundary, course_of, boundary_of_lines}
use Rattle.vm_tally.specs.declared.summary.Summary.{Summary}
use Rattle.vm_tally.specs.Counting.{first_greatest_over, greatest_over, least_over, one_if, sum_over}
use Rattle.vm_tally.specs.Counts.{evicted_from, executed_by, has_stalled, is_for_frames, is_for_swap, is_hard, is_high, is_low, is_soft, over_guests, paged, refused, revoked, swapped_of}

-- ---- epoch k of a course

module _ (course : Run) (k : ℕ) where
  -- what the boundary before it tells
  unfoldable pub told_in : Boundary
  told_in = boundary_of_lines course.policy (course.lines k) (host_after course k)

  -- the host that the boundary leaves
  unfoldable pub ready_in : World
  ready_in = after_boundary course.policy (course.lines k) (host_after course k)

  -- the host after it
  unfoldable pub after_in : World
  after_in = host_after course (suc k)

-- ---- its numbers

module _ (course : Run) where
  -- 1 where its boundary found this state
  abbrev pub high_in : ℕ → ℕ
  high_in k = one_if (is_high (told_in course k).state)

  abbrev pub soft_in : ℕ → ℕ
  soft_in k = one_if (is_soft (told_in course k).state)

  abbrev pub hard_in : ℕ → ℕ
  hard_in k = one_if (is_hard (told_in course k).state)

  abbrev pub low_in : ℕ → ℕ
  low_in k = one_if (is_low (told_in course k).state)

  -- the fewer free frames: when the state was found, and after the epoch
  abbrev pub least_free_in : ℕ → ℕ
  least_free_in k = min (told_in course k).free (after_in course k).pool.free

  -- lines that were refused for want of frames, and of swap
  abbrev pub no_memory_in : ℕ → ℕ
  no_memory_in k = refused is_for_frames (told_in course k)

  abbrev pub no_swap_in : ℕ → ℕ
  no_swap_in k = refused is_for_swap (told_in course k)

  -- entries of all its revocations
  abbrev pub revoked_in : ℕ → ℕ
  revoked_in k = revoked (told_in course k)

  -- frames given up in paging
  abbrev pub paged_in : ℕ → ℕ
  paged_in k = paged (told_in course k)

  -- pages that touches sent to swap
  abbrev pub evicted_in : ℕ → ℕ
  evicted_in k = over_guests evicted_from (after_in course k)

  -- the same, where it stops at the greatest number of 64 bits
  abbrev pub sent_in : ℕ → ℕ
  sent_in k = saturated (evicted_in k)

  -- entries of its grants
  abbrev pub granted_in : ℕ → ℕ
  granted_in k = length (told_in course k).granted

  -- entries of its rebalancing list
  abbrev pub rebalanced_in : ℕ → ℕ
  rebalanced_in k = length (told_in course k).rebalanced

  -- guests that were blocked
  abbrev pub blocked_in : ℕ → ℕ
  blocked_in k = length (told_in course k).blocked

  -- guests that stalled
  abbrev pub stalls_in : ℕ → ℕ
  stalls_in k = over_guests has_stalled (after_in course k)

  -- steps of traces that guests executed
  abbrev pub done_in : ℕ → ℕ
  done_in k = over_guests executed_by (after_in course k) - over_guests executed_by (ready_in course k)

  -- the more pages in swap: at the end of the boundary, and of the epoch
  abbrev pub most_swapped_in : ℕ → ℕ
  most_swapped_in k = max (over_guests swapped_of (ready_in course k)) (over_guests swapped_of (after_in course k))

-- ---- the run

-- what is told of so many epochs of a course, and of the host that they leave; a sum stops at the greatest number of 64 bits
unfoldable pub summary_after : Run → ℕ → Summary
summary_after course n = record {
  high = saturated (sum_over (high_in course) n);
  soft = saturated (sum_over (soft_in course) n);
  hard = saturated (sum_over (hard_in course) n);
  low = saturated (sum_over (low_in course) n);
  least_free = least_over course.first.machine.frames (least_free_in course) n;
  no_memory = saturated (sum_over (no_memory_in course) n);
  no_swap = saturated (sum_over (no_swap_in course) n);
  revoked = saturated (sum_over (revoked_in course) n);
  paged = saturated (sum_over (paged_in course) n);
  evicted = saturated (sum_over (evicted_in course) n);
  granted = saturated (sum_over (granted_in course) n);
  rebalanced = saturated (sum_over (rebalanced_in course) n);
  blocked = saturated (sum_over (blocked_in course) n);
  stalls = saturated (sum_over (stalls_in course) n);
  done = saturated (sum_over (done_in course) n);
  left = saturated (over_guests steps_left (host_after course n));
  most_swapped = greatest_over (most_swapped_in course) n;
  swapped = over_guests swapped_of (host_after course n);
  balloon = over_guests ballooned (host_after course n);
  most_evicted = greatest_over (sent_in course) n;
  worst = first_greatest_over (sent_in course) n;
}

-- what is told of the run of a configuration
abbrev pub summary_of : Config → Summary
summary_of c = summary_after (course_of c) c.epochs

-- whether every promise of a start or a minimum was kept, no page was seen in swap, and nobody waited
abbrev pub fits : Summary → Bool
fits s = s.no_memory == 0 && s.no_swap == 0 && s.blocked == 0 && s.stalls == 0 && s.most_swapped == 0
