-- A summary that goes on by a boundary, and by an epoch: for private contracts alone.
use Rattle.std.specs.Prelude.{ℕ, ◌+◌, ◌-◌, Some, None, if◌then◌else◌, length, max, min, nat_lt}
use Rattle.vm_guest.specs.Record.{ballooned, saturated, steps_left}
use Rattle.vm_host.specs.declared.boundary.Boundary.{Boundary}
use Rattle.vm_host.specs.World.{World}
use Rattle.vm_plan.specs.declared.state.State.{State}
use Rattle.vm_tally.specs.declared.summary.Summary.{Summary}
use Rattle.vm_tally.specs.Counting.{one_if}
use Rattle.vm_tally.specs.Counts.{evicted_from, executed_by, has_stalled, is_for_frames, is_for_swap, is_hard, is_high, is_low, is_soft, over_guests, paged, refused, revoked, swapped_of}

-- of no epoch, of a machine of so many frames
abbrev pub empty_summary : ℕ → Summary
empty_summary frames = record {
  high = 0;
  soft = 0;
  hard = 0;
  low = 0;
  least_free = frames;
  no_memory = 0;
  no_swap = 0;
  revoked = 0;
  paged = 0;
  evicted = 0;
  granted = 0;
  rebalanced = 0;
  blocked = 0;
  stalls = 0;
  done = 0;
  left = 0;
  most_swapped = 0;
  swapped = 0;
  balloon = 0;
  most_evicted = 0;
  worst = None;
}

abbrev pub with_state : State → Summary → Summary
with_state state s = record s {
  high = saturated (s.high + one_if (is_high state));
  soft = saturated (s.soft + one_if (is_soft state));
  hard = saturated (s.hard + one_if (is_hard state));
  low = saturated (s.low + one_if (is_low state));
}

abbrev pub with_moves : Boundary → Summary → Summary
with_moves b s = record s {
  no_memory = saturated (s.no_memory + refused is_for_frames b);
  no_swap = saturated (s.no_swap + refused is_for_swap b);
  revoked = saturated (s.revoked + revoked b);
  paged = saturated (s.paged + paged b);
  granted = saturated (s.granted + length b.granted);
  rebalanced = saturated (s.rebalanced + length b.rebalanced);
  blocked = saturated (s.blocked + length b.blocked);
}

-- so many frames are free, and so many pages in swap
abbrev pub with_seen : (free swapped : ℕ) → Summary → Summary
with_seen free swapped s = record s { least_free = min s.least_free free; most_swapped = max s.most_swapped swapped }

-- a boundary told this, and left this host
abbrev pub with_boundary : Boundary → World → Summary → Summary
with_boundary b w s = with_seen b.free (over_guests swapped_of w) (with_moves b (with_state b.state s))

-- touches of all guests sent so many pages to swap in an epoch
abbrev pub with_sent : (epoch sent : ℕ) → Summary → Summary
with_sent epoch sent s = record s {
  most_evicted = max s.most_evicted sent;
  worst = if nat_lt s.most_evicted sent then Some epoch else s.worst;
}

-- an epoch of this number left this host, whose guests had executed so many steps before it
abbrev pub with_epoch : (epoch before : ℕ) → World → Summary → Summary
with_epoch epoch before w s = record (with_sent epoch (saturated (over_guests evicted_from w)) (with_seen w.pool.free (over_guests swapped_of w) s)) {
  evicted = saturated (s.evicted + over_guests evicted_from w);
  stalls = saturated (s.stalls + over_guests has_stalled w);
  done = saturated (s.done + (over_guests executed_by w - before));
  left = saturated (over_guests steps_left w);
  swapped = over_guests swapped_of w;
  balloon = over_guests ballooned w;
}
