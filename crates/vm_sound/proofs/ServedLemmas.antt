-- No call posts a buffer to a guest's device: where each guest was served, each still is.
use Rattle.std.proofs.Common.{ℕ, Bool, List, [], ◌∷◌, Option, Some, None, IfSome, fold}
use Rattle.std.specs.Prelude.{All}
use Rattle.vm_guest.specs.Boundary.{ordered, released, revoked, serviced, with_cap, with_shares}
use Rattle.vm_guest.specs.Good.{HasNothingPosted}
use Rattle.vm_guest.specs.Record.{GuestRecord}
use Rattle.vm_guest.proofs.EpochLemmas.{ordered-nothing_posted, released-nothing_posted}
use Rattle.vm_pool.specs.Changes.{all_changed, changed, granted_at, released_at, started_at, stopped_at, taken_at, blocked_above, with_min_at, with_orders, with_released, with_spares_back}
use Rattle.vm_pool.specs.Guests.{Guests, each_released}
use Rattle.vm_pool.specs.Pool.{PoolView, EachGuest}
use Rattle.vm_pool.proofs.EachLemmas.{each-all, served-grant, served-release, served-revoke, served-serve_all, served-set_cap, served-set_min, served-set_shares, served-spares_back_all, served-start, served-stop}
use Rattle.std.proofs.lemmas.List.Elements.{All-cons, All-head, All-tail}
use Rattle.std.specs.Option.{option_map}

-- ---- each guest

pub served-serviced : (p : PoolView) → EachGuest HasNothingPosted (all_changed serviced p)
served-serviced p = served-serve_all p

pub served-spares : (p : PoolView) → EachGuest HasNothingPosted p → EachGuest HasNothingPosted (with_spares_back p)
served-spares p served = served-spares_back_all p served

pub served-orders : (blocks : Bool) (p : PoolView) → EachGuest HasNothingPosted p → EachGuest HasNothingPosted (with_orders blocks p)
served-orders blocks p served =
    each-all HasNothingPosted (λ g. ordered g (blocked_above blocks g)) p (λ g nothing. ordered-nothing_posted g (blocked_above blocks g) nothing) served

served-each_released : (counts : List ℕ) (guests : Guests) → All (λ o. IfSome o HasNothingPosted) guests → All (λ o. IfSome o HasNothingPosted) (each_released counts guests)
served-each_released [] guests served = served
served-each_released (count ∷ counts) [] served = served
served-each_released (count ∷ counts) (guest ∷ guests) served =
    All-cons (λ o. IfSome o HasNothingPosted) (option_map (released count) guest) (each_released counts guests)
    (one guest (All-head (λ o. IfSome o HasNothingPosted) guest guests served))
    (served-each_released counts guests (All-tail (λ o. IfSome o HasNothingPosted) guest guests served))
  where
    one : (guest : Option GuestRecord) → IfSome guest HasNothingPosted → IfSome (option_map (released count) guest) HasNothingPosted
    one None nothing = tt
    one (Some g) nothing = released-nothing_posted count g nothing

pub served-released : (counts : List ℕ) (p : PoolView) → EachGuest HasNothingPosted p → EachGuest HasNothingPosted (with_released counts p)
served-released counts p served = served-each_released counts p.guests served

-- ---- the guest at a position

pub served-released_at : (count : ℕ) (p : PoolView) (k : ℕ) → EachGuest HasNothingPosted p → EachGuest HasNothingPosted (released_at count p k)
served-released_at count p k served = served-release count p k served

pub served-revoked : (p : PoolView) (k : ℕ) → EachGuest HasNothingPosted p → EachGuest HasNothingPosted (changed revoked p k)
served-revoked p k served = served-revoke p k served

pub served-taken : (p : PoolView) (k : ℕ) → EachGuest HasNothingPosted p → EachGuest HasNothingPosted (taken_at p k)
served-taken p k served = served-release 1 (changed revoked p k) k (served-revoke p k served)

pub served-granted : (p : PoolView) (k : ℕ) → EachGuest HasNothingPosted p → EachGuest HasNothingPosted (granted_at p k)
served-granted p k served = served-grant p k served

pub served-with_cap : (cap : ℕ) (p : PoolView) (k : ℕ) → EachGuest HasNothingPosted p → EachGuest HasNothingPosted (changed (λ g. with_cap g cap) p k)
served-with_cap cap p k served = served-set_cap cap p k served

pub served-with_shares : (shares : ℕ) (p : PoolView) (k : ℕ) → EachGuest HasNothingPosted p → EachGuest HasNothingPosted (changed (λ g. with_shares g shares) p k)
served-with_shares shares p k served = served-set_shares shares p k served

pub served-with_min : (least : ℕ) (p : PoolView) (k : ℕ) → EachGuest HasNothingPosted p → EachGuest HasNothingPosted (with_min_at least p k)
served-with_min least p k served = served-set_min least p k served

pub served-stopped : (p : PoolView) (k : ℕ) → EachGuest HasNothingPosted p → EachGuest HasNothingPosted (stopped_at p k)
served-stopped p k served = served-stop p k served

pub served-started : (p : PoolView) (k : ℕ) → EachGuest HasNothingPosted p → EachGuest HasNothingPosted (started_at p k)
served-started p k served = served-start p k served

-- ---- lists of moves

pub served-all_revoked : (moves : List ℕ) (p : PoolView) → EachGuest HasNothingPosted p → EachGuest HasNothingPosted (fold (changed revoked) p moves)
served-all_revoked [] p served = served
served-all_revoked (k ∷ moves) p served = served-all_revoked moves (changed revoked p k) (served-revoked p k served)

pub served-all_taken : (moves : List ℕ) (p : PoolView) → EachGuest HasNothingPosted p → EachGuest HasNothingPosted (fold taken_at p moves)
served-all_taken [] p served = served
served-all_taken (k ∷ moves) p served = served-all_taken moves (taken_at p k) (served-taken p k served)

pub served-all_granted : (moves : List ℕ) (p : PoolView) → EachGuest HasNothingPosted p → EachGuest HasNothingPosted (fold granted_at p moves)
served-all_granted [] p served = served
served-all_granted (k ∷ moves) p served = served-all_granted moves (granted_at p k) (served-granted p k served)
