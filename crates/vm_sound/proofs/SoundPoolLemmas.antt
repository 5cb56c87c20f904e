-- A pool stays sound by each call, and by each list of moves that can be done.
use Rattle.std.proofs.Common.{◌≡◌, ◌∙◌, ℕ, zero, suc, ◌+◌, ◌<◌, ◌≤◌, Bool, List, [], ◌∷◌, Option, Some, None, IfSome, fold, ⊎_elim, refl, sym, ap, subst, arith}
use Rattle.std.specs.Prelude.{All, slice_get, slice_set}
use Rattle.std.proofs.lemmas.Option.{none-some, slice_get_within}
use Rattle.std.proofs.lemmas.List.{length-set}
use Rattle.std.proofs.lemmas.List.Elements.{All-head, All-set, All-tail}
use Rattle.vm_guest.specs.Boundary.{granted, ordered, released, revoked, serviced, surplus, with_cap, with_shares, without_spares}
use Rattle.vm_guest.specs.Config.{GuestConfig, IsWithinLimits}
use Rattle.vm_guest.specs.Epoch.{epoch}
use Rattle.vm_guest.specs.Good.{HasNothingPosted, IsGood}
use Rattle.vm_guest.specs.Record.{GuestRecord}
use Rattle.vm_guest.specs.Start.{started}
use Rattle.vm_guest.proofs.GoodLemmas.{started-good}
use Rattle.vm_pool.specs.Changes.{after_epoch, all_changed, changed, granted_at, released_at, started_at, stopped_at, taken_at, blocked_above, with_min_at, with_min_held, with_orders, with_released, with_spares_back, with_started, AreReleasable}
use Rattle.vm_pool.specs.CanMove.{CanGrant, CanRevoke}
use Rattle.vm_pool.specs.Guests.{Guests, guest_in, EachRunning}
use Rattle.vm_pool.specs.Pool.{PoolView, guest_at, EachGuest}
use Rattle.vm_sound.specs.Moves.{CanTake}
use Rattle.vm_sound.specs.Sound.{IsSoundPool}
use Rattle.vm_sound.proofs.BecomeLemmas.{EachBecomes, become-all, become-at, become-released, before-become, each-become, length-become}
use Rattle.vm_sound.proofs.PlaceLemmas.{each-in, each-of, guests-taken, if-any, if-both, if-here, if-then, in-set, in-set_other, same-or_apart}
use Rattle.vm_sound.proofs.StepLemmas.{StaysGood, good-epoch, good-granted, good-none, good-ordered, good-released, good-revoked, good-serviced, good-spares, good-taken, good-with_cap, good-with_min, good-with_shares}

-- ---- guests that stay good

-- a pool stays sound where each guest stays good, whatever becomes of the free frames
pub sound-become : (p : PoolView) (guests : Guests) (free : ℕ) → EachBecomes StaysGood p.guests guests → IsSoundPool p → IsSoundPool (record p { guests = guests; free = free })
sound-become p guests free steps sound = record {
  paired = length-become StaysGood p.guests guests steps ∙ sound.paired;
  few = sound.few;
  limits = sound.limits;
  good = each-become StaysGood IsGood (λ old new step. step.good) p.guests guests steps sound.good;
  set_up = λ k g here.
      let was = before-become StaysGood p.guests guests k g steps here in
      let step = was.2 in
      sound.set_up k was.0 was.1 ∙ ap Some (sym step.config);
}

-- each guest changes
pub sound-all : (change : GuestRecord → GuestRecord) (p : PoolView) (free : ℕ) → EachGuest (λ g. StaysGood g (change g)) p → IsSoundPool p
    → IsSoundPool (record (all_changed change p) { free = free })
sound-all change p free steps sound = sound-become p (all_changed change p).guests free (become-all StaysGood change p.guests steps) sound

-- the guest at a position changes
pub sound-at : (change : GuestRecord → GuestRecord) (p : PoolView) (k : ℕ) (free : ℕ) → IfSome (guest_at p k) (λ g. StaysGood g (change g)) → IsSoundPool p
    → IsSoundPool (record (changed change p k) { free = free })
sound-at change p k free step sound = sound-become p (changed change p k).guests free (become-at StaysGood change p.guests k good-none step) sound

-- a step that each guest takes, whatever it is
pub each-step : (R : GuestRecord → GuestRecord → Type 0) (change : GuestRecord → GuestRecord) (guests : Guests) → ((g : GuestRecord) → R g (change g))
    → EachRunning (λ g. R g (change g)) guests
each-step R change guests step = each-of (λ g. R g (change g)) guests (λ k g here. step g)

-- ---- each guest

pub sound-serviced : (p : PoolView) → IsSoundPool p → IsSoundPool (all_changed serviced p)
sound-serviced p sound = sound-all serviced p p.free (each-step StaysGood serviced p.guests good-serviced) sound

pub sound-spares : (p : PoolView) → IsSoundPool p → IsSoundPool (with_spares_back p)
sound-spares p sound = sound-all without_spares p (with_spares_back p).free (each-step StaysGood without_spares p.guests good-spares) sound

pub sound-orders : (blocks : Bool) (p : PoolView) → IsSoundPool p → IsSoundPool (with_orders blocks p)
sound-orders blocks p sound =
    sound-all (λ g. ordered g (blocked_above blocks g)) p p.free (each-step StaysGood (λ g. ordered g (blocked_above blocks g)) p.guests (λ g. good-ordered (blocked_above blocks g) g)) sound

pub sound-epoch : (p : PoolView) → EachGuest HasNothingPosted p → IsSoundPool p → IsSoundPool (after_epoch p)
sound-epoch p served sound =
    sound-all epoch p p.free (each-of (λ g. StaysGood g (epoch g)) p.guests (λ k g here. good-epoch g (each-in HasNothingPosted p.guests k g served here))) sound

pub sound-released : (counts : List ℕ) (p : PoolView) → AreReleasable counts p.guests → IsSoundPool p → IsSoundPool (with_released counts p)
sound-released counts p few sound =
    sound-become p (with_released counts p).guests (with_released counts p).free (become-released StaysGood counts p.guests good-none good-released few) sound

-- ---- the guest at a position

pub sound-released_at : (count : ℕ) (p : PoolView) (k : ℕ) → IfSome (guest_at p k) (λ g. count ≤ surplus g) → IsSoundPool p → IsSoundPool (released_at count p k)
sound-released_at count p k few sound =
    sound-at (released count) p k (released_at count p k).free (if-then (λ g. count ≤ surplus g) (λ g. StaysGood g (released count g)) (guest_at p k) (good-released count) few) sound

pub sound-revoked : (p : PoolView) (k : ℕ) → IfSome (guest_at p k) (λ g. g.allotment.min < g.allotment.target) → IsSoundPool p → IsSoundPool (changed revoked p k)
sound-revoked p k above sound =
    sound-at revoked p k p.free (if-then (λ g. g.allotment.min < g.allotment.target) (λ g. StaysGood g (revoked g)) (guest_at p k) good-revoked above) sound

pub sound-taken : (p : PoolView) (k : ℕ) → IfSome (guest_at p k) (λ g. g.allotment.min < g.allotment.target) → IsSoundPool p → IsSoundPool (taken_at p k)
sound-taken p k above sound =
    subst (λ (guests : Guests). IsSoundPool (record p { guests = guests; free = p.free + 1 })) (sym (guests-taken p k))
    (sound-at (λ g. released 1 (revoked g)) p k (p.free + 1)
    (if-then (λ g. g.allotment.min < g.allotment.target) (λ g. StaysGood g (released 1 (revoked g))) (guest_at p k) good-taken above) sound)

pub sound-granted : (p : PoolView) (k : ℕ) → IfSome (guest_at p k) (λ g. 0 < g.allotment.demand) → IfSome (guest_at p k) (λ g. g.allotment.target < g.allotment.cap) → IsSoundPool p
    → IsSoundPool (granted_at p k)
sound-granted p k wants room sound =
    sound-at granted p k (granted_at p k).free
    (if-both (λ g. 0 < g.allotment.demand) (λ g. g.allotment.target < g.allotment.cap) (λ g. StaysGood g (granted g)) (guest_at p k) good-granted wants room) sound

pub sound-with_cap : (cap : ℕ) (p : PoolView) (k : ℕ) → IfSome (guest_at p k) (λ g. g.allotment.min ≤ cap) → IfSome (guest_at p k) (λ g. cap ≤ g.config.size) → IsSoundPool p
    → IsSoundPool (changed (λ g. with_cap g cap) p k)
sound-with_cap cap p k from to sound =
    sound-at (λ g. with_cap g cap) p k p.free
    (if-both (λ g. g.allotment.min ≤ cap) (λ g. cap ≤ g.config.size) (λ g. StaysGood g (with_cap g cap)) (guest_at p k) (good-with_cap cap) from to) sound

pub sound-with_shares : (shares : ℕ) (p : PoolView) (k : ℕ) → 1 ≤ shares → shares ≤ 1000000 → IsSoundPool p → IsSoundPool (changed (λ g. with_shares g shares) p k)
sound-with_shares shares p k some few sound =
    sound-at (λ g. with_shares g shares) p k p.free (if-any (λ g. StaysGood g (with_shares g shares)) (guest_at p k) (λ g. good-with_shares shares g some few)) sound

pub sound-with_min : (least : ℕ) (p : PoolView) (k : ℕ) → 1 ≤ least → IfSome (guest_at p k) (λ g. least ≤ g.allotment.cap) → IsSoundPool p → IsSoundPool (with_min_at least p k)
sound-with_min least p k some few sound =
    sound-at (with_min_held least) p k (with_min_at least p k).free
    (if-then (λ g. least ≤ g.allotment.cap) (λ g. StaysGood g (with_min_held least g)) (guest_at p k) (λ g. good-with_min least g some) few) sound

-- ---- a guest starts or stops

limits-here : (configs : List GuestConfig) (k : ℕ) (config : GuestConfig) → slice_get configs k ≡ Some config → All IsWithinLimits configs → IsWithinLimits config
limits-here [] k config here limits = absurd (none-some config here)
limits-here (first ∷ configs) zero config here limits = let same : first ≡ config = cc in subst IsWithinLimits same (All-head IsWithinLimits first configs limits)
limits-here (first ∷ configs) (suc k) config here limits = limits-here configs k config here (All-tail IsWithinLimits first configs limits)

pub sound-stopped : (p : PoolView) (k : ℕ) → IsSoundPool p → IsSoundPool (stopped_at p k)
sound-stopped p k sound = record {
  paired = length-set p.guests k None ∙ sound.paired;
  few = sound.few;
  limits = sound.limits;
  good = All-set (λ o. IfSome o IsGood) p.guests k None tt sound.good;
  set_up = λ i g here.
      ⊎_elim
      (λ same. absurd (none-some g (sym (stopped-here p.guests k) ∙ (ap (guest_in (slice_set p.guests k None)) same ∙ here))))
      (λ apart. sound.set_up i g (sym (in-set_other p.guests k i None apart) ∙ here))
      (same-or_apart k i);
}
  where
    stopped-here : (guests : Guests) (k : ℕ) → guest_in (slice_set guests k None) k ≡ None
    stopped-here [] k = refl
    stopped-here (guest ∷ guests) zero = refl
    stopped-here (guest ∷ guests) (suc k) = stopped-here guests k

pub sound-started : (p : PoolView) (k : ℕ) → IsSoundPool p → IsSoundPool (started_at p k)
sound-started p k sound = go (slice_get p.configs k) refl
  where
    go : (config : Option GuestConfig) → slice_get p.configs k ≡ config → IsSoundPool (with_started p k config)
    go None here = sound
    go (Some config) here = record {
      paired = length-set p.guests k (Some (started config)) ∙ sound.paired;
      few = sound.few;
      limits = sound.limits;
      good = All-set (λ o. IfSome o IsGood) p.guests k (Some (started config)) (started-good config (limits-here p.configs k config here sound.limits)) sound.good;
      set_up = λ i g there.
          ⊎_elim
          (λ same.
          let within = slice_get_within p.configs k config here in
          let paired = sound.paired in
          let now : Some (started config) ≡ Some g =
          sym (in-set p.guests k (Some (started config)) (omega (arith, within, paired))) ∙ (ap (guest_in (slice_set p.guests k (Some (started config)))) same ∙ there) in
          let is : started config ≡ g = cc in
          ap (slice_get p.configs) (sym same) ∙ (here ∙ ap (λ (x : GuestRecord). Some x.config) is))
          (λ apart. sound.set_up i g (sym (in-set_other p.guests k i (Some (started config)) apart) ∙ there))
          (same-or_apart k i);
    }

-- ---- lists of moves

pub sound-all_revoked : (moves : List ℕ) (p : PoolView) → CanRevoke p moves → IsSoundPool p → IsSoundPool (fold (changed revoked) p moves)
sound-all_revoked [] p can sound = sound
sound-all_revoked (k ∷ moves) p can sound = let first = can.0 in sound-all_revoked moves (changed revoked p k) can.1 (sound-revoked p k first.above sound)

pub sound-all_taken : (moves : List ℕ) (p : PoolView) → CanTake p moves → IsSoundPool p → IsSoundPool (fold taken_at p moves)
sound-all_taken [] p can sound = sound
sound-all_taken (k ∷ moves) p can sound =
    let first = can.0 in
    sound-all_taken moves (taken_at p k) can.1 (sound-taken p k (if-here (λ g. g.allotment.min < g.allotment.target) (guest_at p k) first.guest first.here first.above) sound)

pub sound-all_granted : (moves : List ℕ) (p : PoolView) → CanGrant p moves → IsSoundPool p → IsSoundPool (fold granted_at p moves)
sound-all_granted [] p can sound = sound
sound-all_granted (k ∷ moves) p can sound =
    let first = can.0 in
    sound-all_granted moves (granted_at p k) can.1 (sound-granted p k first.demand first.room sound)
