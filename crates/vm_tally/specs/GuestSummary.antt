-- What is told of each guest of a run, in the words of its report and of what it shows.
use Rattle.std.specs.Prelude.{ℕ, ◌-◌, List, Option, is_some, length, map, max}
use Rattle.std.specs.List.{range_with_len}
use Rattle.std.specs.Option.{option_map}
use Rattle.vm_config.specs.declared.config.Config.{Config}
use Rattle.vm_guest.specs.Record.{GuestRecord, ballooned, saturated, steps_left}
use Rattle.vm_host.specs.World.{World, guest_at}
use Rattle.vm_pool.specs.Guests.{of_running}
use Rattle.vm_runs.specs.Course.{Run, host_after}
use Rattle.vm_sim.specs.Course.{course_of}
use Rattle.vm_tally.specs.declared.guest_summary.AtEnd.{AtEnd}
use Rattle.vm_tally.specs.declared.guest_summary.GuestSummary.{GuestSummary}
use Rattle.vm_tally.specs.Counting.{greatest_over, one_if, sum_over}
use Rattle.vm_tally.specs.Counts.{evicted_from, executed_by, has_stalled, swapped_of}
use Rattle.vm_tally.specs.GuestEntries.{entries_of, paged_by, revoked_from}
use Rattle.vm_tally.specs.Summary.{after_in, ready_in, told_in}

-- ---- the guest at a position, in epoch k of a course

module _ (course : Run) (position : ℕ) where
  -- the guest that the boundary leaves there, and the one after the epoch, if one runs
  abbrev pub guest_ready : ℕ → Option GuestRecord
  guest_ready k = guest_at (ready_in course k) position

  abbrev pub guest_after : ℕ → Option GuestRecord
  guest_after k = guest_at (after_in course k) position

  -- 1 where the boundary leaves it running, blocked or not
  abbrev pub runs_in : ℕ → ℕ
  runs_in k = one_if (is_some (guest_ready k))

  -- entries of the boundary's revocations that name it
  abbrev pub revoked_in : ℕ → ℕ
  revoked_in k = revoked_from position (told_in course k)

  -- frames that it gave up in paging
  abbrev pub paged_in : ℕ → ℕ
  paged_in k = paged_by position (told_in course k)

  -- pages that its touches sent to swap
  abbrev pub evicted_in : ℕ → ℕ
  evicted_in k = of_running evicted_from (guest_after k)

  -- entries of the boundary's grants that name it
  abbrev pub granted_in : ℕ → ℕ
  granted_in k = entries_of position (told_in course k).granted

  -- entries of the boundary's rebalancing list that name it
  abbrev pub rebalanced_in : ℕ → ℕ
  rebalanced_in k = entries_of position (told_in course k).rebalanced

  -- entries of the boundary's list of blocked guests that name it: 1 where it was blocked
  abbrev pub blocked_in : ℕ → ℕ
  blocked_in k = entries_of position (told_in course k).blocked

  -- 1 where it stalled
  abbrev pub stalls_in : ℕ → ℕ
  stalls_in k = of_running has_stalled (guest_after k)

  -- steps of its trace that it executed
  abbrev pub done_in : ℕ → ℕ
  done_in k = of_running executed_by (guest_after k) - of_running executed_by (guest_ready k)

  -- the more of its pages in swap: at the end of the boundary, and of the epoch; none where it doesn't run
  abbrev pub most_swapped_in : ℕ → ℕ
  most_swapped_in k = max (of_running swapped_of (guest_ready k)) (of_running swapped_of (guest_after k))

-- ---- the run

-- what holds of a guest that runs at the end
abbrev pub at_end_of : GuestRecord → AtEnd
at_end_of g = record {
  left = steps_left g;
  target = g.allotment.target;
  held = g.memory.held;
  swapped = swapped_of g;
  balloon = ballooned g;
}

-- the same of the guest at a position of a host, if one runs there
abbrev pub at_end_in : World → ℕ → Option AtEnd
at_end_in w position = option_map at_end_of (guest_at w position)

-- what is told of the guest at a position, of so many epochs of a course and of the host that they leave; a sum stops at the greatest
-- number of 64 bits
unfoldable pub guest_summary_after : Run → (position : ℕ) → (n : ℕ) → GuestSummary
guest_summary_after course position n = record {
  epochs = saturated (sum_over (runs_in course position) n);
  revoked = saturated (sum_over (revoked_in course position) n);
  paged = saturated (sum_over (paged_in course position) n);
  evicted = saturated (sum_over (evicted_in course position) n);
  granted = saturated (sum_over (granted_in course position) n);
  rebalanced = saturated (sum_over (rebalanced_in course position) n);
  blocked = saturated (sum_over (blocked_in course position) n);
  stalls = saturated (sum_over (stalls_in course position) n);
  done = saturated (sum_over (done_in course position) n);
  most_swapped = greatest_over (most_swapped_in course position) n;
  at_end = at_end_in (host_after course n) position;
}

-- what is told of each guest of the run of a configuration, in the order of the configuration
abbrev pub guest_summaries_of : Config → List GuestSummary
guest_summaries_of c = map (λ position. guest_summary_after (course_of c) position c.epochs) (range_with_len 0 (length c.domains))
