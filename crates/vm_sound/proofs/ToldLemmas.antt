-- The memory of each guest is that of the last writes after each call: only a service of the devices, a start and an epoch are
-- happenings, and no other call changes a byte.
use Rattle.std.proofs.Common.{◌≡◌, ◌∙◌, ℕ, zero, suc, Bool, List, [], ◌∷◌, ◌++◌, Option, Some, None, IfSome, fold, refl, sym, subst}
use Rattle.std.specs.Prelude.{slice_get, slice_set}
use Rattle.std.proofs.lemmas.List.Elements.{All-cons, All-head, All-nil, All-tail}
use Rattle.std.proofs.lemmas.Option.{none-some}
use Rattle.vm_guest.specs.Boundary.{granted, ordered, released, revoked, serviced, with_cap, with_shares, without_spares}
use Rattle.vm_guest.specs.Config.{GuestConfig}
use Rattle.vm_guest.specs.Epoch.{epoch}
use Rattle.vm_guest.specs.Good.{HasNothingPosted, IsGood}
use Rattle.vm_guest.specs.Happenings.{Happening, Started, epoch_happenings, service_happenings, IsWrittenBy}
use Rattle.vm_guest.specs.Record.{GuestRecord}
use Rattle.vm_guest.specs.Start.{started}
use Rattle.vm_guest.proofs.LastWriteLemmas.{last_write-append}
use Rattle.vm_guest.proofs.ReadLemmas.{epoch-as_written}
use Rattle.vm_guest.proofs.WrittenLemmas.{HasSameBytes, HasSameBytes-granted, HasSameBytes-released, same-written, serviced-written, started-written}
use Rattle.vm_pool.specs.Changes.{after_epoch, all_changed, changed, granted_at, released_at, started_at, stopped_at, taken_at, blocked_above, with_min_at, with_min_held, with_orders, with_released, with_spares_back, with_started}
use Rattle.vm_pool.specs.Guests.{Guests, each_changed, each_released, guest_in, EachRunning}
use Rattle.vm_pool.specs.Pool.{PoolView, guest_at, EachGuest}
use Rattle.vm_sound.specs.Written.{History, happenings_at, with_happenings, AreAll, IfRuns, IsKnown, IsOrdered}
use Rattle.vm_sound.proofs.BecomeLemmas.{Becomes, EachBecomes, become-all, become-at, become-none}
use Rattle.vm_pool.proofs.EachLemmas.{each-made}
use Rattle.vm_sound.proofs.PlaceLemmas.{each-in, each-of, guests-taken, if-any}
use Rattle.vm_sound.proofs.SoundPoolLemmas.{each-step}

-- ---- one guest

-- what was written before is what its memory shows after
pub record StaysWritten (old new : GuestRecord) : Type 0 where
  pub bytes : (happenings : List Happening) → IsWrittenBy happenings old → IsWrittenBy happenings new

pub written-none : (g : GuestRecord) → StaysWritten g g
written-none g = record { bytes = λ happenings written. written }

written-same : (old new : GuestRecord) → HasSameBytes old new → StaysWritten old new
written-same old new same = record { bytes = λ happenings written. same-written happenings same written }

written-then : (a b c : GuestRecord) → StaysWritten a b → StaysWritten b c → StaysWritten a c
written-then a b c first second = record { bytes = λ happenings written. second.bytes happenings (first.bytes happenings written) }

one-spares : (g : GuestRecord) → StaysWritten g (without_spares g)
one-spares g = record { bytes = λ happenings written. record { each = written.each } }

one-released : (count : ℕ) (g : GuestRecord) → StaysWritten g (released count g)
one-released count g = written-same g (released count g) (HasSameBytes-released count g)

one-revoked : (g : GuestRecord) → StaysWritten g (revoked g)
one-revoked g = record { bytes = λ happenings written. record { each = written.each } }

one-taken : (g : GuestRecord) → StaysWritten g (released 1 (revoked g))
one-taken g = written-then g (revoked g) (released 1 (revoked g)) (one-revoked g) (one-released 1 (revoked g))

one-granted : (g : GuestRecord) → StaysWritten g (granted g)
one-granted g = written-same g (granted g) (HasSameBytes-granted g)

one-with_cap : (cap : ℕ) (g : GuestRecord) → StaysWritten g (with_cap g cap)
one-with_cap cap g = record { bytes = λ happenings written. record { each = written.each } }

one-with_shares : (shares : ℕ) (g : GuestRecord) → StaysWritten g (with_shares g shares)
one-with_shares shares g = record { bytes = λ happenings written. record { each = written.each } }

one-with_min : (least : ℕ) (g : GuestRecord) → StaysWritten g (with_min_held least g)
one-with_min least g = record { bytes = λ happenings written. record { each = written.each } }

one-ordered : (blocked : Bool) (g : GuestRecord) → StaysWritten g (ordered g blocked)
one-ordered blocked g = record { bytes = λ happenings written. record { each = written.each } }

-- ---- guests to which nothing happens

pub told-become : (olds news : Guests) (h : History) → EachBecomes StaysWritten olds news → AreAll IsWrittenBy olds h → AreAll IsWrittenBy news h
told-become [] [] h steps all = all
told-become [] (new ∷ news) h steps all = absurd steps
told-become (old ∷ olds) [] h steps all = absurd steps
told-become (old ∷ olds) (new ∷ news) [] steps all = absurd all
told-become (old ∷ olds) (new ∷ news) (happenings ∷ h) steps all = (one old new steps.0 all.0, told-become olds news h steps.1 all.1)
  where
    one : (old new : Option GuestRecord) → Becomes StaysWritten old new → IfRuns IsWrittenBy old happenings → IfRuns IsWrittenBy new happenings
    one None None step written = tt
    one None (Some new) step written = absurd step
    one (Some old) None step written = absurd step
    one (Some old) (Some new) step written = step.bytes happenings written

pub told-all : (change : GuestRecord → GuestRecord) (p : PoolView) (h : History) → ((g : GuestRecord) → StaysWritten g (change g)) → AreAll IsWrittenBy p.guests h
    → AreAll IsWrittenBy (all_changed change p).guests h
told-all change p h step all = told-become p.guests (all_changed change p).guests h (become-all StaysWritten change p.guests (each-step StaysWritten change p.guests step)) all

pub told-at : (change : GuestRecord → GuestRecord) (p : PoolView) (k : ℕ) (h : History) → ((g : GuestRecord) → StaysWritten g (change g)) → AreAll IsWrittenBy p.guests h
    → AreAll IsWrittenBy (changed change p k).guests h
told-at change p k h step all =
    told-become p.guests (changed change p k).guests h
    (become-at StaysWritten change p.guests k written-none (if-any (λ g. StaysWritten g (change g)) (guest_at p k) step)) all

-- ---- each guest

pub told-spares : (p : PoolView) (h : History) → AreAll IsWrittenBy p.guests h → AreAll IsWrittenBy (with_spares_back p).guests h
told-spares p h all = told-all without_spares p h one-spares all

pub told-orders : (blocks : Bool) (p : PoolView) (h : History) → AreAll IsWrittenBy p.guests h → AreAll IsWrittenBy (with_orders blocks p).guests h
told-orders blocks p h all = told-all (λ g. ordered g (blocked_above blocks g)) p h (λ g. one-ordered (blocked_above blocks g) g) all

become-each_released : (counts : List ℕ) (guests : Guests) → EachBecomes StaysWritten guests (each_released counts guests)
become-each_released [] guests = become-none StaysWritten written-none guests
become-each_released (count ∷ counts) [] = tt
become-each_released (count ∷ counts) (None ∷ guests) = (tt, become-each_released counts guests)
become-each_released (count ∷ counts) (Some g ∷ guests) = (one-released count g, become-each_released counts guests)

pub told-released : (counts : List ℕ) (p : PoolView) (h : History) → AreAll IsWrittenBy p.guests h → AreAll IsWrittenBy (with_released counts p).guests h
told-released counts p h all = told-become p.guests (with_released counts p).guests h (become-each_released counts p.guests) all

-- ---- the guest at a position

pub told-released_at : (count : ℕ) (p : PoolView) (k : ℕ) (h : History) → AreAll IsWrittenBy p.guests h → AreAll IsWrittenBy (released_at count p k).guests h
told-released_at count p k h all = told-at (released count) p k h (one-released count) all

pub told-revoked : (p : PoolView) (k : ℕ) (h : History) → AreAll IsWrittenBy p.guests h → AreAll IsWrittenBy (changed revoked p k).guests h
told-revoked p k h all = told-at revoked p k h one-revoked all

pub told-taken : (p : PoolView) (k : ℕ) (h : History) → AreAll IsWrittenBy p.guests h → AreAll IsWrittenBy (taken_at p k).guests h
told-taken p k h all = subst (λ (guests : Guests). AreAll IsWrittenBy guests h) (sym (guests-taken p k)) (told-at (λ g. released 1 (revoked g)) p k h one-taken all)

pub told-granted : (p : PoolView) (k : ℕ) (h : History) → AreAll IsWrittenBy p.guests h → AreAll IsWrittenBy (granted_at p k).guests h
told-granted p k h all = told-at granted p k h one-granted all

pub told-with_cap : (cap : ℕ) (p : PoolView) (k : ℕ) (h : History) → AreAll IsWrittenBy p.guests h → AreAll IsWrittenBy (changed (λ g. with_cap g cap) p k).guests h
told-with_cap cap p k h all = told-at (λ g. with_cap g cap) p k h (one-with_cap cap) all

pub told-with_shares : (shares : ℕ) (p : PoolView) (k : ℕ) (h : History) → AreAll IsWrittenBy p.guests h → AreAll IsWrittenBy (changed (λ g. with_shares g shares) p k).guests h
told-with_shares shares p k h all = told-at (λ g. with_shares g shares) p k h (one-with_shares shares) all

pub told-with_min : (least : ℕ) (p : PoolView) (k : ℕ) (h : History) → AreAll IsWrittenBy p.guests h → AreAll IsWrittenBy (with_min_at least p k).guests h
told-with_min least p k h all = told-at (with_min_held least) p k h (one-with_min least) all

-- ---- lists of moves

pub told-all_revoked : (moves : List ℕ) (p : PoolView) (h : History) → AreAll IsWrittenBy p.guests h → AreAll IsWrittenBy (fold (changed revoked) p moves).guests h
told-all_revoked [] p h all = all
told-all_revoked (k ∷ moves) p h all = told-all_revoked moves (changed revoked p k) h (told-revoked p k h all)

pub told-all_taken : (moves : List ℕ) (p : PoolView) (h : History) → AreAll IsWrittenBy p.guests h → AreAll IsWrittenBy (fold taken_at p moves).guests h
told-all_taken [] p h all = all
told-all_taken (k ∷ moves) p h all = told-all_taken moves (taken_at p k) h (told-taken p k h all)

pub told-all_granted : (moves : List ℕ) (p : PoolView) (h : History) → AreAll IsWrittenBy p.guests h → AreAll IsWrittenBy (fold granted_at p moves).guests h
told-all_granted [] p h all = all
told-all_granted (k ∷ moves) p h all = told-all_granted moves (granted_at p k) h (told-granted p k h all)

-- ---- a guest starts or stops

pub told-stopped : (p : PoolView) (k : ℕ) (h : History) → AreAll IsWrittenBy p.guests h → AreAll IsWrittenBy (stopped_at p k).guests h
told-stopped p k h all = go p.guests k h all
  where
    go : (guests : Guests) (k : ℕ) (h : History) → AreAll IsWrittenBy guests h → AreAll IsWrittenBy (slice_set guests k None) h
    go [] k h all = all
    go (guest ∷ guests) k [] all = absurd all
    go (guest ∷ guests) zero (happenings ∷ h) all = (tt, all.1)
    go (guest ∷ guests) (suc k) (happenings ∷ h) all = (all.0, go guests k h all.1)

-- a start makes all memory zeros, whatever happened before
started-after : (config : GuestConfig) (before : List Happening) → IsWrittenBy (before ++ Started ∷ []) (started config)
started-after config before =
    let first = started-written config in
    record { each = λ page offset below inside. first.each page offset below inside ∙ sym (last_write-append before Started page offset) }

pub told-started : (p : PoolView) (k : ℕ) (h : History) → guest_at p k ≡ None → AreAll IsWrittenBy p.guests h
    → AreAll IsWrittenBy (started_at p k).guests (slice_set h k (happenings_at h k ++ Started ∷ []))
told-started p k h none all = go (slice_get p.configs k)
  where
    -- the guest starts
    starts : (config : GuestConfig) (guests : Guests) (k : ℕ) (h : History) → AreAll IsWrittenBy guests h
        → AreAll IsWrittenBy (slice_set guests k (Some (started config))) (slice_set h k (happenings_at h k ++ Started ∷ []))
    starts config [] k [] all = tt
    starts config [] k (happenings ∷ h) all = absurd all
    starts config (guest ∷ guests) k [] all = absurd all
    starts config (guest ∷ guests) zero (happenings ∷ h) all = (started-after config happenings, all.1)
    starts config (guest ∷ guests) (suc k) (happenings ∷ h) all = (all.0, starts config guests k h all.1)

    -- no domain is there
    stays : (guests : Guests) (k : ℕ) (h : History) (more : List Happening) → guest_in guests k ≡ None → AreAll IsWrittenBy guests h → AreAll IsWrittenBy guests (slice_set h k more)
    stays [] k [] more none all = tt
    stays [] k (happenings ∷ h) more none all = absurd all
    stays (guest ∷ guests) k [] more none all = absurd all
    stays (None ∷ guests) zero (happenings ∷ h) more none all = (tt, all.1)
    stays (Some g ∷ guests) zero (happenings ∷ h) more none all = absurd (none-some g (sym none))
    stays (guest ∷ guests) (suc k) (happenings ∷ h) more none all = (all.0, stays guests k h more none all.1)

    go : (config : Option GuestConfig) → AreAll IsWrittenBy (with_started p k config).guests (slice_set h k (happenings_at h k ++ Started ∷ []))
    go None = stays p.guests k h (happenings_at h k ++ Started ∷ []) none all
    go (Some config) = starts config p.guests k h all

-- ---- services and epochs

-- each guest changes, and this happens to it
told-happen : (change : GuestRecord → GuestRecord) (happens : GuestRecord → List Happening) (Fact : GuestRecord → Type 0) (guests : Guests) (h : History)
    → ((g : GuestRecord) (before : List Happening) → Fact g → IsWrittenBy before g → IsWrittenBy (before ++ happens g) (change g)) → EachRunning Fact guests
    → AreAll IsWrittenBy guests h → AreAll IsWrittenBy (each_changed change guests) (with_happenings happens guests h)
told-happen change happens Fact [] h step each all = all
told-happen change happens Fact (guest ∷ guests) [] step each all = absurd all
told-happen change happens Fact (None ∷ guests) (before ∷ h) step each all =
    (tt, told-happen change happens Fact guests h step (All-tail (λ o. IfSome o Fact) None guests each) all.1)
told-happen change happens Fact (Some g ∷ guests) (before ∷ h) step each all = (
  step g before (All-head (λ o. IfSome o Fact) (Some g) guests each) all.0,
  told-happen change happens Fact guests h step (All-tail (λ o. IfSome o Fact) (Some g) guests each) all.1,
)

pub told-serviced : (p : PoolView) (h : History) → EachGuest IsGood p → AreAll IsWrittenBy p.guests h
    → AreAll IsWrittenBy (all_changed serviced p).guests (with_happenings service_happenings p.guests h)
told-serviced p h good all =
    told-happen serviced service_happenings IsGood p.guests h (λ g before good written. serviced-written before g good.sound written) good all

-- ---- what is known of each guest

-- of each guest that runs, and of what happened to it
pub known-good : (guests : Guests) (h : History) → AreAll IsKnown guests h → EachRunning IsGood guests
known-good [] h all = All-nil (λ o. IfSome o IsGood)
known-good (guest ∷ guests) [] all = absurd all
known-good (None ∷ guests) (before ∷ h) all = All-cons (λ o. IfSome o IsGood) None guests tt (known-good guests h all.1)
known-good (Some g ∷ guests) (before ∷ h) all = let known = all.0 in All-cons (λ o. IfSome o IsGood) (Some g) guests known.good (known-good guests h all.1)

pub known-written : (guests : Guests) (h : History) → AreAll IsKnown guests h → AreAll IsWrittenBy guests h
known-written [] h all = all
known-written (guest ∷ guests) [] all = absurd all
known-written (None ∷ guests) (before ∷ h) all = (tt, known-written guests h all.1)
known-written (Some g ∷ guests) (before ∷ h) all = let known = all.0 in (known.written, known-written guests h all.1)

pub known-of : (guests : Guests) (h : History) → EachRunning IsGood guests → AreAll IsWrittenBy guests h → AreAll IsKnown guests h
known-of [] h good all = all
known-of (guest ∷ guests) [] good all = absurd all
known-of (None ∷ guests) (before ∷ h) good all = (tt, known-of guests h (All-tail (λ o. IfSome o IsGood) None guests good) all.1)
known-of (Some g ∷ guests) (before ∷ h) good all =
    (record { good = All-head (λ o. IfSome o IsGood) (Some g) guests good; written = all.0 }, known-of guests h (All-tail (λ o. IfSome o IsGood) (Some g) guests good) all.1)

-- once each guest was given its orders
pub ordered-of : (guests : Guests) (h : History) → EachRunning IsGood guests → EachRunning HasNothingPosted guests → EachRunning (λ g. g.reads ≡ []) guests → AreAll IsWrittenBy guests h
    → AreAll IsOrdered guests h
ordered-of [] h good served none all = all
ordered-of (guest ∷ guests) [] good served none all = absurd all
ordered-of (None ∷ guests) (before ∷ h) good served none all = (
  tt,
  ordered-of guests h (All-tail (λ o. IfSome o IsGood) None guests good) (All-tail (λ o. IfSome o HasNothingPosted) None guests served)
      (All-tail (λ o. IfSome o (λ g. g.reads ≡ [])) None guests none) all.1,
)
ordered-of (Some g ∷ guests) (before ∷ h) good served none all = (
  record {
    good = All-head (λ o. IfSome o IsGood) (Some g) guests good;
    nothing_posted = All-head (λ o. IfSome o HasNothingPosted) (Some g) guests served;
    no_reads = All-head (λ o. IfSome o (λ g. g.reads ≡ [])) (Some g) guests none;
    written = all.0;
  },
  ordered-of guests h (All-tail (λ o. IfSome o IsGood) (Some g) guests good) (All-tail (λ o. IfSome o HasNothingPosted) (Some g) guests served)
      (All-tail (λ o. IfSome o (λ g. g.reads ≡ [])) (Some g) guests none) all.1,
)

pub no_reads-orders : (blocks : Bool) (p : PoolView) → EachGuest (λ g. g.reads ≡ []) (with_orders blocks p)
no_reads-orders blocks p = each-made (λ g. g.reads ≡ []) (λ g. ordered g (blocked_above blocks g)) p (λ g. refl)

-- ---- an epoch

pub told-epoch : (p : PoolView) (h : History) → EachGuest IsGood p → EachGuest HasNothingPosted p → AreAll IsWrittenBy p.guests h
    → AreAll IsWrittenBy (after_epoch p).guests (with_happenings epoch_happenings p.guests h)
told-epoch p h good served all =
    told-happen epoch epoch_happenings (λ g. IsGood g × HasNothingPosted g) p.guests h
    (λ g before fact written. let good = fact.0 in let now = epoch-as_written before g fact.1 good.sound written in now.written)
    (each-of (λ g. IsGood g × HasNothingPosted g) p.guests (λ k g here. (each-in IsGood p.guests k g good here, each-in HasNothingPosted p.guests k g served here)))
    all
