-- A recording follows the samples of a log.
use Rattle.std.proofs.Common.{◌≡◌, ◌∙◌, ◌⊎◌, inl, inr, ℕ, zero, suc, ◌+◌, ◌-◌, ◌*◌, ◌/◌, ◌%◌, ◌==◌, ◌<◌, ◌≤◌, Bool, true, false, List, [], ◌∷◌, ◌++◌, Option, Some, None, length, take, append_assoc, refl, sym, ap, subst, arith, if◌then◌else◌}
use Rattle.std.specs.Prelude.{IfSome}
use Rattle.std.proofs.Math.Nat.{div-mul-le_self, lt-div-mul-add, lt_of_mul-lt-mul_right, mul-mod_right}
use Rattle.std.proofs.lemmas.Bool.{cases_lt}
use Rattle.std.proofs.lemmas.Bool.Decides.{nat_tests}
use Rattle.std.proofs.lemmas.List.{append-nil, length-append}
use Rattle.vm_recorded.specs.declared.limit.Limit.{Limit}
use Rattle.vm_recorded.specs.Counts.{counts_for}
use Rattle.vm_recorded.specs.Hosts.{HostView}
use Rattle.vm_recorded.specs.Limits.{limit_of, limit_with_bytes}
use Rattle.vm_samples.specs.Policies.{PolicyView}
use Rattle.vm_steer.specs.Entries.{EntryView}
use Rattle.vm_log.specs.declared.recording.Recording.{Recording}
use Rattle.vm_log.specs.Following.{Follows, IsEndedWith, IsHostOf, IsTakenWith}
use Rattle.vm_log.specs.Growing.{hosted_in}
use Rattle.vm_log.specs.HostOf.{host_of}
use Rattle.vm_log.specs.Judging.{AreShort}
use Rattle.vm_log.specs.Recorded.{IsRecorded}
use Rattle.vm_log.specs.Sampling.{HasAdded, HasKept, HasTakenBack, IsUsable}
use Rattle.vm_log.specs.Told.{AreKeptSmall, AreSmall}
use Rattle.vm_log.specs.Taking.{epochs_before, limit_at}
use Rattle.vm_log.proofs.AddLemmas.{recorded-more}
use Rattle.vm_log.proofs.CloseLemmas.{host-back, host-is, recorded-kept}
use Rattle.vm_log.proofs.GuestLemmas.{not_zero}
use Rattle.vm_log.proofs.JudgeLemmas.{few_epochs, few_guests, first_none}
use Rattle.vm_log.proofs.TakeLemmas.{before-is}

-- the host of whole epochs that were judged has few guests
few_closed : (policy : PolicyView) (every : ℕ) (closed : List (List EntryView)) (host : HostView) → host ≡ host_of policy every closed → (closed ≡ []) ⊎ (limit_with_bytes (host_of policy every closed) ≡ None) → length host.guests ≤ 256
unfolding host_of
few_closed policy every closed host is (inl none) =
    let e : length host.guests ≡ 0 = ap (λ (h : HostView). length h.guests) (is ∙ ap (host_of policy every) none) in
    omega (arith, e)
few_closed policy every closed host is (inr judged) = few_guests host (ap limit_of is ∙ first_none (host_of policy every closed) judged)

-- ---- which limit is judged with the last sample

left_over : (every ended more : ℕ) → more < every → (ended * every + more) % every ≡ more
left_over every ended more less =
    let n = ended * every + more in
    let low = div-mul-le_self n every in
    let high : n < n / every * every + every = lt-div-mul-add (omega (arith, less)) in
    let d = n / every in
    let a : d * every < (ended + 1) * every = omega (arith, low, less) in
    let b : ended * every < (d + 1) * every = omega (arith, high) in
    let x = lt_of_mul-lt-mul_right every a in
    let y = lt_of_mul-lt-mul_right every b in
    let same : d ≡ ended = omega (arith, x, y) in
    let parts : every * d + n % every ≡ n = omega (arith, less) in
    let product : every * d ≡ ended * every = ap (λ (k : ℕ). every * k) same ∙ (let c : every * ended ≡ ended * every = omega arith in c) in
    omega (arith, parts, product)

take_none : (n : ℕ) → take {A = List EntryView} n [] ≡ []
take_none zero = refl
take_none (suc n) = refl

full_test : (every ended : ℕ) → 0 < every → ((ended * every + every) % every == 0) ≡ true
full_test every ended some =
    let e : ended * every + every ≡ every * (ended + 1) = omega arith in
    ap (λ (n : ℕ). n % every == 0) e ∙ ap (λ (n : ℕ). n == 0) (mul-mod_right every (ended + 1))

open_test : (every ended more : ℕ) → 1 ≤ more → more < every → ((ended * every + more) % every == 0) ≡ false
open_test every ended more one less =
    let same : (ended * every + more) % every ≡ more = left_over every ended more less in
    ap (λ (n : ℕ). n == 0) same ∙ not_zero more one

module _ (policy : PolicyView) (every ended : ℕ) (some : 0 < every) (closed opened : List (List EntryView)) (mid new : Recording) (is : IsRecorded policy every ended closed opened mid)
    (one : 1 ≤ length opened) (judged : (closed ≡ []) ⊎ (limit_with_bytes (host_of policy every closed) ≡ None)) where
  many : length (closed ++ opened) ≡ ended * every + length opened
  many = omega (arith, length-append closed opened, is.whole)

  limit-full : (result : Option Limit) → length opened ≡ every → result ≡ limit_with_bytes (hosted_in policy mid) → limit_at policy every (closed ++ opened) ≡ result
  limit-full result full e =
      let test : (length (closed ++ opened) % every == 0) ≡ true = ap (λ (n : ℕ). n % every == 0) (many ∙ ap (λ (k : ℕ). ended * every + k) full) ∙ full_test every ended some in
      rw test (ap limit_with_bytes (sym (host-is policy every ended some closed opened mid mid is)) ∙ sym e)

  limit-open : (result : Option Limit) → length opened < every → result ≡ limit_of (hosted_in policy mid) → limit_at policy every (closed ++ opened) ≡ result
  limit-open result less e =
      let test : (length (closed ++ opened) % every == 0) ≡ false = ap (λ (n : ℕ). n % every == 0) many ∙ open_test every ended (length opened) one less in
      rw test (ap limit_of (sym (host-is policy every ended some closed opened mid mid is)) ∙ sym e)

  -- taken back
  pub taken_back_host : HasTakenBack policy mid new → IsHostOf policy every (epochs_before every (closed ++ opened)) new
  taken_back_host back =
      let host = host-back policy every ended some closed opened mid new is back in
      record {
        host = host ∙ ap (host_of policy every) (sym (before-is every ended closed opened some is.whole one is.fits));
        few = few_closed policy every closed (hosted_in policy new) host judged;
      }

  full_follows : length opened ≡ every → limit_with_bytes (hosted_in policy mid) ≡ None → HasKept mid new → Follows policy every (closed ++ opened) new
  full_follows full none kept =
      let host = host-is policy every ended some closed opened mid mid is in
      record {
        ended = ended + 1;
        closed = closed ++ opened;
        opened = [];
        is = sym (append-nil (closed ++ opened));
        room = some;
        recorded = recorded-kept policy every ended some closed opened mid new is full kept;
        few = omega (arith, kept.epochs, few_epochs (hosted_in policy mid) (first_none (hosted_in policy mid) none));
        judged = inr (ap limit_with_bytes (sym host) ∙ none);
      }

  open_follows : length opened < every → limit_of (hosted_in policy mid) ≡ None → new ≡ mid → Follows policy every (closed ++ opened) new
  open_follows less none same = subst (Follows policy every (closed ++ opened)) (sym same) (record {
    ended = ended;
    closed = closed;
    opened = opened;
    is = refl;
    room = less;
    recorded = is;
    few = few_epochs (hosted_in policy mid) none;
    judged = judged;
  })

  -- what becomes of it
  pub settled : (result : Option Limit) → (mid.open ≡ every → result ≡ limit_with_bytes (hosted_in policy mid)) → (mid.open < every → result ≡ limit_of (hosted_in policy mid))
      → IfSome result (λ _. HasTakenBack policy mid new) → (result ≡ None → mid.open ≡ every → HasKept mid new) → (result ≡ None → mid.open < every → new ≡ mid)
      → (length opened ≡ every) ⊎ (length opened < every) → IsTakenWith policy every (closed ++ opened) new result
  settled None ends goes_on passed full more (inl e) =
      let all : mid.open ≡ every = is.open_is ∙ e in
      (limit-full None e (ends all), full_follows e (sym (ends all)) (full refl all))
  settled None ends goes_on passed full more (inr less) =
      let all : mid.open < every = omega (arith, is.open_is, less) in
      (limit-open None less (goes_on all), open_follows less (sym (goes_on all)) (more refl all))
  settled (Some limit) ends goes_on passed full more (inl e) = (limit-full (Some limit) e (ends (is.open_is ∙ e)), taken_back_host passed)
  settled (Some limit) ends goes_on passed full more (inr less) =
      let all : mid.open < every = omega (arith, is.open_is, less) in
      (limit-open (Some limit) less (goes_on all), taken_back_host passed)

-- ---- before the first sample, and behind the last

pub begun : (policy : PolicyView) (every : ℕ) (r : Recording) → r.guests.items ≡ [] → r.kept.items ≡ [] → r.counts.items ≡ [] → r.beside.items ≡ [] → r.epochs ≡ 0 → r.open ≡ 0 → 1 ≤ every → Follows policy every [] r
begun policy every r guests kept counts beside epochs is_open some = record {
  ended = 0;
  closed = [];
  opened = [];
  is = refl;
  room = omega (arith, some);
  recorded = record {
    whole = omega arith;
    open_is = is_open;
    fits = omega arith;
    epochs_is = omega (arith, epochs);
    few = omega (arith, epochs);
    guests = guests;
    kept = kept;
    counts = counts ∙ ap counts_for (sym guests);
    beside = beside;
    short = subst AreShort (sym guests) tt;
    small = subst (AreSmall r.epochs) (sym counts) tt;
    kept_small = subst (AreKeptSmall 0) (sym kept) tt;
  };
  few = omega (arith, epochs);
  judged = inl refl;
}

pub either : (n every : ℕ) → n ≤ every → (n ≡ every) ⊎ (n < every)
either n every fits = elim (cases_lt n every) [ inl less ↦ inr less | inr le ↦ inl (omega (arith, le, fits)) ]

module _ (policy : PolicyView) (every ended : ℕ) (some : 0 < every) (closed opened : List (List EntryView)) (old new : Recording) (is : IsRecorded policy every ended closed opened old)
    (judged : (closed ≡ []) ⊎ (limit_with_bytes (host_of policy every closed) ≡ None)) where
  pub ends_none : limit_with_bytes (hosted_in policy old) ≡ None → IsEndedWith policy every (closed ++ opened) old None
  ends_none none =
      let host = host-is policy every ended some closed opened old old is in
      (ap limit_with_bytes (sym host) ∙ none, record { host = host; few = few_guests (hosted_in policy old) (first_none (hosted_in policy old) none) })

  pub ends_some : (limit : Limit) → limit_with_bytes (hosted_in policy old) ≡ Some limit → HasTakenBack policy old new → IsEndedWith policy every (closed ++ opened) new (Some limit)
  ends_some limit e back = (ap limit_with_bytes (sym host) ∙ e, go opened refl is)
    where
      host : hosted_in policy old ≡ host_of policy every (closed ++ opened)
      host = host-is policy every ended some closed opened old old is

      back_host : hosted_in policy new ≡ host_of policy every closed
      back_host = host-back policy every ended some closed opened old new is back

      alone : opened ≡ [] → (closed ≡ []) ⊎ (limit_with_bytes (host_of policy every closed) ≡ None) → closed ≡ []
      alone none (inl first) = first
      alone none (inr was) =
          let same : closed ++ opened ≡ closed = ap (λ (o : List (List EntryView)). closed ++ o) none ∙ append-nil closed in
          let other : limit_with_bytes (host_of policy every closed) ≡ Some limit = ap (λ (l : List (List EntryView)). limit_with_bytes (host_of policy every l)) (sym same) ∙ (ap limit_with_bytes (sym host) ∙ e) in
          absurd (cc)

      go : (o : List (List EntryView)) → opened ≡ o → IsRecorded policy every ended closed opened old → IsHostOf policy every (epochs_before every (closed ++ opened)) new
      go [] none was =
          let first = alone none judged in
          let all : closed ++ opened ≡ [] = (λ i. first i ++ none i) in
          let before : epochs_before every (closed ++ opened) ≡ [] = ap (epochs_before every) all ∙ take_none ((0 - 1) / every * every) in
          record { host = back_host ∙ ap (host_of policy every) (first ∙ sym before); few = few_closed policy every closed (hosted_in policy new) back_host judged }
      go (x ∷ o) more was = taken_back_host policy every ended some closed opened old new is (omega (arith, ap (λ (l : List (List EntryView)). length l) more)) judged back
