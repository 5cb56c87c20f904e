-- What was counted of the guests, of one epoch more and at the end.
use Rattle.std.proofs.Common.{◌≡◌, ℕ, zero, suc, ◌+◌, ◌<◌, List, [], ◌∷◌, length, map, replicate, slice_index, slice_index_or, refl, sym, ap, ◌∙◌, arith}
use Rattle.std.proofs.lemmas.List.FromFn.{fill_by_all, get_or-map-range_with_len, length-map-range_with_len}
use Rattle.std.specs.List.{range_with_len}
use Rattle.vm_config.specs.declared.config.Config.{Config}
use Rattle.vm_domains.specs.Domains.{Domain, configs_of, names_of}
use Rattle.vm_guest.specs.Record.{saturated}
use Rattle.vm_host.specs.declared.boundary.Boundary.{Boundary}
use Rattle.vm_host.specs.World.{World}
use Rattle.vm_pool.specs.Guests.{of_running}
use Rattle.vm_runs.specs.Course.{Run, host_after}
use Rattle.vm_sim.specs.Course.{boundary_at, course_of, ready_world, world_after}
use Rattle.vm_tally.specs.declared.guest_summary.GuestSummary.{GuestSummary}
use Rattle.vm_tally.specs.Counting.{sum_over}
use Rattle.vm_tally.specs.Counts.{executed_by, swapped_of}
use Rattle.vm_tally.specs.GuestSummary.{blocked_in, done_in, evicted_in, granted_in, guest_after, guest_ready, guest_summaries_of, guest_summary_after, paged_in, rebalanced_in, revoked_in, runs_in, stalls_in}
use Rattle.vm_tally.specs.GuestTally.{Tally, all_seen_after, all_seen_ready, counts_over, each_with_more, empty_tally, seen_after, seen_ready, sighting_after, summary_at, tally_after, unseen, with_boundary, with_epoch, with_more}
use Rattle.vm_tally.specs.Summary.{after_in, ready_in, told_in}
use Rattle.vm_tally.proofs.ColumnLemmas.{with_more-saturated}
use Rattle.vm_tally.proofs.EachLemmas.{each_at-each_at, each_at-map}
use Rattle.vm_tally.proofs.FirstLemmas.{no-guest}
use Rattle.vm_tally.proofs.NextLemmas.{after_same, greatest_more, ready_same, sum_next, told_same}

-- ---- an epoch more

-- a column of counts with those of epoch k
counts-next : (number : ℕ → ℕ → ℕ) (guests k : ℕ) → each_with_more (λ p. number p k) (counts_over number guests k) ≡ counts_over number guests (suc k)
counts-next number guests k =
    each_at-map (λ p x. with_more x (number p k)) (λ p. saturated (sum_over (number p) k)) 0 guests
    ∙ (λ i. map (λ p. with_more-saturated (sum_over (number p) k) (number p k) i) (range_with_len 0 guests))

-- what was seen of a guest, with epoch k
sighting-next : (course : Run) (p k : ℕ)
    → seen_after (guest_after course p k) (seen_ready (guest_ready course p k) (sighting_after course p k)) ≡ sighting_after course p (suc k)
unfolding after_in
sighting-next course p k = λ i. record {
  epochs = sum_next (runs_in course p) k i;
  evicted = sum_next (evicted_in course p) k i;
  stalls = sum_next (stalls_in course p) k i;
  done = sum_next (done_in course p) k i;
  executed = (sighting_after course p (suc k)).executed;
  most_swapped = greatest_more (sighting_after course p k).most_swapped (of_running swapped_of (guest_ready course p k))
      (of_running swapped_of (guest_after course p k)) i;
}

sightings-next : (course : Run) (guests k : ℕ)
    → all_seen_after (after_in course k) (all_seen_ready (ready_in course k) (map (λ p. sighting_after course p k) (range_with_len 0 guests)))
    ≡ map (λ p. sighting_after course p (suc k)) (range_with_len 0 guests)
sightings-next course guests k =
    each_at-each_at (λ p s. seen_after (guest_after course p k) s) (λ p s. seen_ready (guest_ready course p k) s) 0 _
    ∙ each_at-map (λ p s. seen_after (guest_after course p k) (seen_ready (guest_ready course p k) s)) (λ p. sighting_after course p k) 0 guests
    ∙ (λ i. map (λ p. sighting-next course p k i) (range_with_len 0 guests))

tally-next : (course : Run) (guests k : ℕ)
    → with_epoch (after_in course k) (with_boundary (told_in course k) (ready_in course k) (tally_after course guests k)) ≡ tally_after course guests (suc k)
unfolding tally_after
tally-next course guests k = λ i. record {
  revoked = counts-next (revoked_in course) guests k i;
  paged = counts-next (paged_in course) guests k i;
  granted = counts-next (granted_in course) guests k i;
  rebalanced = counts-next (rebalanced_in course) guests k i;
  blocked = counts-next (blocked_in course) guests k i;
  seen = sightings-next course guests k i;
}

-- the tally of a run that went on by a boundary, which told this and left this host, and by an epoch
pub tally-more : (c : Config) (guests k : ℕ) (told : Boundary) (ready after : World) (old between new : Tally)
    → told ≡ boundary_at c k → ready ≡ ready_world c k → after ≡ world_after c (suc k) → old ≡ tally_after (course_of c) guests k
    → between ≡ with_boundary told ready old → new ≡ with_epoch after between → new ≡ tally_after (course_of c) guests (suc k)
tally-more c guests k told ready after old between new told_is ready_is after_is old_is between_is new_is =
    let now_told : told ≡ told_in (course_of c) k = told_is ∙ told_same c k in
    let now_ready : ready ≡ ready_in (course_of c) k = ready_is ∙ ready_same c k in
    let now_after : after ≡ after_in (course_of c) k = after_is ∙ after_same c k in
    let now_between : between ≡ with_boundary (told_in (course_of c) k) (ready_in (course_of c) k) (tally_after (course_of c) guests k) =
    between_is ∙ (λ i. with_boundary (now_told i) (now_ready i) (old_is i)) in
    new_is ∙ (λ i. with_epoch (now_after i) (now_between i)) ∙ tally-next (course_of c) guests k

-- ---- before the first epoch

replicate-map : {A : Type 0} (x : A) (k n : ℕ) → replicate n x ≡ map (λ _. x) (range_with_len k n)
replicate-map x k zero = refl
replicate-map x k (suc n) = ap (λ l. x ∷ l) (replicate-map x (k + 1) n)

unseen-first : (c : Config) (p : ℕ) → unseen ≡ sighting_after (course_of c) p 0
unseen-first c p = λ i. record {
  epochs = 0;
  evicted = 0;
  stalls = 0;
  done = 0;
  executed = of_running executed_by (sym (no-guest (configs_of c.domains) p) i);
  most_swapped = 0;
}

pub first-tally : (c : Config) (guests : ℕ) → empty_tally guests ≡ tally_after (course_of c) guests 0
unfolding tally_after
first-tally c guests = λ i. record {
  revoked = replicate-map 0 0 guests i;
  paged = replicate-map 0 0 guests i;
  granted = replicate-map 0 0 guests i;
  rebalanced = replicate-map 0 0 guests i;
  blocked = replicate-map 0 0 guests i;
  seen = (replicate-map unseen 0 guests ∙ (λ t. map (λ p. unseen-first c p t) (range_with_len 0 guests))) i;
}

-- ---- at the end

pub counted-guests : (c : Config) → length (names_of c.domains) ≡ length c.domains
counted-guests c = length-names c.domains
  where
    length-names : (domains : List Domain) → length (names_of domains) ≡ length domains
    length-names [] = refl
    length-names (domain ∷ domains) = ap suc (length-names domains)

count-at : (number : ℕ → ℕ → ℕ) (guests n p : ℕ) → p < guests → slice_index (counts_over number guests n) p ≡ saturated (sum_over (number p) n)
count-at number guests n p within = get_or-map-range_with_len (λ q. saturated (sum_over (number q) n)) 0 guests p p 0 within (omega arith)

sighting-at : (course : Run) (guests n p : ℕ) → p < guests
    → slice_index_or (map (λ q. sighting_after course q n) (range_with_len 0 guests)) p unseen ≡ sighting_after course p n
sighting-at course guests n p within = get_or-map-range_with_len (λ q. sighting_after course q n) 0 guests p p unseen within (omega arith)

summary-at : (course : Run) (guests n p : ℕ) → p < guests
    → summary_at (tally_after course guests n) (host_after course n) p ≡ guest_summary_after course p n
unfolding tally_after guest_summary_after
summary-at course guests n p within =
    let seen = sighting-at course guests n p within in
    λ i. record {
      epochs = (seen i).epochs;
      revoked = count-at (revoked_in course) guests n p within i;
      paged = count-at (paged_in course) guests n p within i;
      evicted = (seen i).evicted;
      granted = count-at (granted_in course) guests n p within i;
      rebalanced = count-at (rebalanced_in course) guests n p within i;
      blocked = count-at (blocked_in course) guests n p within i;
      stalls = (seen i).stalls;
      done = (seen i).done;
      most_swapped = (seen i).most_swapped;
      at_end = (guest_summary_after course p n).at_end;
    }

seen-length : (course : Run) (guests n : ℕ) → length (tally_after course guests n).seen ≡ guests
unfolding tally_after
seen-length course guests n = length-map-range_with_len (λ p. sighting_after course p n) 0 guests

all-summaries : (course : Run) (guests n : ℕ)
    → map (summary_at (tally_after course guests n) (host_after course n)) (range_with_len 0 guests)
    ≡ map (λ p. guest_summary_after course p n) (range_with_len 0 guests)
all-summaries course guests n =
    let one = summary_at (tally_after course guests n) (host_after course n) in
    fill_by_all (λ p. guest_summary_after course p n) (map one (range_with_len 0 guests)) guests (one 0)
    (length-map-range_with_len one 0 guests)
    (λ p within. get_or-map-range_with_len one 0 guests p p (one 0) within (omega arith) ∙ summary-at course guests n p within)

-- what is told of each guest of a run that is done
pub summaries-of : (c : Config) (tally : Tally) (host : World) (told : List GuestSummary) → tally ≡ tally_after (course_of c) (length c.domains) c.epochs
    → host ≡ world_after c c.epochs → told ≡ map (summary_at tally host) (range_with_len 0 (length tally.seen)) → told ≡ guest_summaries_of c
summaries-of c tally host told tally_is host_is told_is =
    let guests = length c.domains in
    let many : length tally.seen ≡ guests = ap (λ (t : Tally). length t.seen) tally_is ∙ seen-length (course_of c) guests c.epochs in
    told_is ∙ (λ i. map (summary_at (tally_is i) (host_is i)) (range_with_len 0 (many i))) ∙ all-summaries (course_of c) guests c.epochs
