-- What was counted of the guests so far, by position: for private contracts alone.
use Rattle.std.specs.Prelude.{ℕ, ◌+◌, ◌-◌, ◌==◌, List, [], ◌∷◌, Option, is_some, if◌then◌else◌, map, max, replicate, slice_index, slice_index_or}
use Rattle.std.specs.List.{range_with_len}
use Rattle.vm_guest.specs.Record.{GuestRecord, saturated}
use Rattle.vm_host.specs.declared.boundary.Boundary.{Boundary}
use Rattle.vm_host.specs.World.{World, guest_at}
use Rattle.vm_plan.specs.declared.stretch.Stretch.{Stretch}
use Rattle.vm_pool.specs.Guests.{of_running}
use Rattle.vm_runs.specs.Course.{Run, host_after}
use Rattle.vm_tally.specs.declared.guest_summary.GuestSummary.{GuestSummary}
use Rattle.vm_tally.specs.declared.guest_sightings.Sighting.{Sighting}
use Rattle.vm_tally.specs.Counting.{greatest_over, one_if, sum_over}
use Rattle.vm_tally.specs.Counts.{evicted_from, executed_by, has_stalled, swapped_of}
use Rattle.vm_tally.specs.GuestEntries.{entries_of, paged_by, revoked_from}
use Rattle.vm_tally.specs.GuestSummary.{at_end_in, blocked_in, done_in, evicted_in, granted_in, most_swapped_in, paged_in, rebalanced_in, revoked_in, runs_in, stalls_in}

-- each of a list is changed by its position, of which the first one is given
abbrev pub each_at : {A : Type 0} → (ℕ → A → A) → (first : ℕ) → List A → List A
each_at change first [] = []
each_at change first (x ∷ xs) = change first x ∷ each_at change (first + 1) xs

-- ---- a count for each guest

-- more is added to a count, which stops at the greatest number of 64 bits; it is never less then
abbrev pub with_more : (count more : ℕ) → ℕ
with_more count more = max count (saturated (count + more))

-- so much is added at each position
abbrev pub each_with_more : (ℕ → ℕ) → List ℕ → List ℕ
each_with_more more counts = each_at (λ position count. with_more count (more position)) 0 counts

-- so much is added at one position
abbrev pub only_at : (place amount : ℕ) → ℕ → ℕ
only_at place amount position = if place == position then amount else 0

-- how many entries of a stretch name a guest
abbrev pub entries_in : (position : ℕ) → Stretch → ℕ
entries_in position stretch = only_at stretch.position stretch.count position

-- ---- what was seen of a guest

abbrev pub unseen : Sighting
unseen = record { epochs = 0; evicted = 0; stalls = 0; done = 0; executed = 0; most_swapped = 0 }

-- a boundary leaves this guest, or none
abbrev pub seen_ready : Option GuestRecord → Sighting → Sighting
seen_ready guest s = record s {
  epochs = saturated (s.epochs + one_if (is_some guest));
  executed = of_running executed_by guest;
  most_swapped = max s.most_swapped (of_running swapped_of guest);
}

-- an epoch leaves this guest, or none
abbrev pub seen_after : Option GuestRecord → Sighting → Sighting
seen_after guest s = record s {
  evicted = saturated (s.evicted + of_running evicted_from guest);
  stalls = saturated (s.stalls + of_running has_stalled guest);
  done = saturated (s.done + (of_running executed_by guest - s.executed));
  executed = of_running executed_by guest;
  most_swapped = max s.most_swapped (of_running swapped_of guest);
}

abbrev pub all_seen_ready : World → List Sighting → List Sighting
all_seen_ready w seen = each_at (λ position s. seen_ready (guest_at w position) s) 0 seen

abbrev pub all_seen_after : World → List Sighting → List Sighting
all_seen_after w seen = each_at (λ position s. seen_after (guest_at w position) s) 0 seen

-- ---- all of it

pub record Tally : Type 0 where
  pub revoked : List ℕ
  pub paged : List ℕ
  pub granted : List ℕ
  pub rebalanced : List ℕ
  pub blocked : List ℕ
  pub seen : List Sighting

-- of so many guests and no epoch
abbrev pub empty_tally : ℕ → Tally
empty_tally count = record {
  revoked = replicate count 0;
  paged = replicate count 0;
  granted = replicate count 0;
  rebalanced = replicate count 0;
  blocked = replicate count 0;
  seen = replicate count unseen;
}

-- a boundary told this
abbrev pub with_moves : Boundary → Tally → Tally
with_moves b t = record t {
  revoked = each_with_more (λ position. revoked_from position b) t.revoked;
  paged = each_with_more (λ position. paged_by position b) t.paged;
  granted = each_with_more (λ position. entries_of position b.granted) t.granted;
  rebalanced = each_with_more (λ position. entries_of position b.rebalanced) t.rebalanced;
  blocked = each_with_more (λ position. entries_of position b.blocked) t.blocked;
}

-- and left this host
abbrev pub with_boundary : Boundary → World → Tally → Tally
with_boundary b w t = record (with_moves b t) { seen = all_seen_ready w t.seen }

-- an epoch left this host
abbrev pub with_epoch : World → Tally → Tally
with_epoch w t = record t { seen = all_seen_after w t.seen }

-- ---- of so many epochs of a course

-- what was seen of the guest at a position
abbrev pub sighting_after : Run → (position : ℕ) → (n : ℕ) → Sighting
sighting_after course position n = record {
  epochs = saturated (sum_over (runs_in course position) n);
  evicted = saturated (sum_over (evicted_in course position) n);
  stalls = saturated (sum_over (stalls_in course position) n);
  done = saturated (sum_over (done_in course position) n);
  executed = of_running executed_by (guest_at (host_after course n) position);
  most_swapped = greatest_over (most_swapped_in course position) n;
}

-- a number of each guest of so many
abbrev pub counts_over : (ℕ → ℕ → ℕ) → (guests n : ℕ) → List ℕ
counts_over number guests n = map (λ position. saturated (sum_over (number position) n)) (range_with_len 0 guests)

unfoldable pub tally_after : Run → (guests n : ℕ) → Tally
tally_after course guests n = record {
  revoked = counts_over (revoked_in course) guests n;
  paged = counts_over (paged_in course) guests n;
  granted = counts_over (granted_in course) guests n;
  rebalanced = counts_over (rebalanced_in course) guests n;
  blocked = counts_over (blocked_in course) guests n;
  seen = map (λ position. sighting_after course position n) (range_with_len 0 guests);
}

-- what is told of the guest at a position, where the run left this host
abbrev pub summary_at : Tally → World → ℕ → GuestSummary
summary_at t w position =
    let seen = slice_index_or t.seen position unseen in
    record {
      epochs = seen.epochs;
      revoked = slice_index t.revoked position;
      paged = slice_index t.paged position;
      evicted = seen.evicted;
      granted = slice_index t.granted position;
      rebalanced = slice_index t.rebalanced position;
      blocked = slice_index t.blocked position;
      stalls = seen.stalls;
      done = seen.done;
      most_swapped = seen.most_swapped;
      at_end = at_end_in w position;
    }
