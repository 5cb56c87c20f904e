-- For callers: what is true of each guest of a pool stays true, where a call keeps it for one guest. So it is with no buffer being
-- posted, which an epoch asks for, once all guests were served.
use Rattle.std.proofs.Common.{ℕ, zero, suc, Bool, List, [], ◌∷◌, get_or}
use Rattle.std.specs.Prelude.{All, IfSome, Option, Some, None, slice_get}
use Rattle.std.specs.Option.{option_map}
use Rattle.std.proofs.lemmas.List.Elements.{All-cons, All-head, All-map, All-set, All-tail}
use Rattle.vm_guest.specs.Boundary.{granted, ordered, released, revoked, serviced, with_cap, with_shares, without_spares}
use Rattle.vm_guest.specs.Config.{GuestConfig}
use Rattle.vm_guest.specs.Good.{HasNothingPosted}
use Rattle.vm_guest.specs.Record.{GuestRecord}
use Rattle.vm_guest.specs.Start.{started}
use Rattle.vm_guest.proofs.BoundaryLemmas.{serviced-nothing_posted}
use Rattle.vm_guest.proofs.EpochLemmas.{granted-nothing_posted, ordered-nothing_posted, released-nothing_posted, revoked-nothing_posted, started-nothing_posted, with_cap-nothing_posted, with_shares-nothing_posted, without_spares-nothing_posted}
use Rattle.vm_pool.specs.Changes.{all_changed, changed, granted_at, released_at, started_at, stopped_at, blocked_above, with_min_at, with_min_held, with_orders, with_released, with_spares_back, with_started}
use Rattle.vm_pool.specs.Guests.{Guests, each_released, running, EachRunning}
use Rattle.vm_pool.specs.Pool.{PoolView, guest_at, EachGuest}

-- a change of a guest that keeps a fact
abbrev pub Keeps : (GuestRecord → Type 0) → (GuestRecord → GuestRecord) → Type 0
Keeps P change = (g : GuestRecord) → P g → P (change g)

each-guest : (P : GuestRecord → Type 0) (change : GuestRecord → GuestRecord) (guest : Option GuestRecord) → Keeps P change → IfSome guest P → IfSome (option_map change guest) P
each-guest P change None keeps here = tt
each-guest P change (Some g) keeps here = keeps g here

each-here : (P : GuestRecord → Type 0) (guests : List (Option GuestRecord)) (i : ℕ) → All (λ guest. IfSome guest P) guests → IfSome (running (slice_get guests i)) P
each-here P [] i all = tt
each-here P (guest ∷ guests) zero all = All-head (λ h. IfSome h P) guest guests all
each-here P (guest ∷ guests) (suc i) all = each-here P guests i (All-tail (λ h. IfSome h P) guest guests all)

each-new : (P : GuestRecord → Type 0) (change : GuestRecord → GuestRecord) (guest : Option GuestRecord) → ((g : GuestRecord) → P (change g)) → IfSome (option_map change guest) P
each-new P change None makes = tt
each-new P change (Some g) makes = makes g

-- after a change of each guest
pub each-all : (P : GuestRecord → Type 0) (change : GuestRecord → GuestRecord) (p : PoolView) → Keeps P change → EachGuest P p → EachGuest P (all_changed change p)
each-all P change p keeps all = All-map (λ h. IfSome h P) (option_map change) p.guests (λ i d there. each-guest P change (get_or p.guests i d) keeps (all i d there))

-- after a change of each guest that makes it so
pub each-made : (P : GuestRecord → Type 0) (change : GuestRecord → GuestRecord) (p : PoolView) → ((g : GuestRecord) → P (change g)) → EachGuest P (all_changed change p)
each-made P change p makes = All-map (λ h. IfSome h P) (option_map change) p.guests (λ i d there. each-new P change (get_or p.guests i d) makes)

-- after a change of one guest
pub each-changed : (P : GuestRecord → Type 0) (change : GuestRecord → GuestRecord) (p : PoolView) (i : ℕ) → Keeps P change → EachGuest P p → EachGuest P (changed change p i)
each-changed P change p i keeps all =
    All-set (λ h. IfSome h P) p.guests i (option_map change (guest_at p i)) (each-guest P change (guest_at p i) keeps (each-here P p.guests i all)) all

-- after each guest gave up frames
pub each-release_all : (P : GuestRecord → Type 0) (counts : List ℕ) (guests : Guests) → ((count : ℕ) → Keeps P (released count)) → EachRunning P guests
    → EachRunning P (each_released counts guests)
each-release_all P [] guests keeps all = all
each-release_all P (count ∷ counts) [] keeps all = all
each-release_all P (count ∷ counts) (guest ∷ guests) keeps all =
    All-cons (λ h. IfSome h P) (option_map (released count) guest) (each_released counts guests)
    (each-guest P (released count) guest (keeps count) (All-head (λ h. IfSome h P) guest guests all))
    (each-release_all P counts guests keeps (All-tail (λ h. IfSome h P) guest guests all))

pub each-start : (P : GuestRecord → Type 0) (p : PoolView) (i : ℕ) → ((config : GuestConfig) → P (started config)) → EachGuest P p → EachGuest P (started_at p i)
each-start P p i starts all = go (slice_get p.configs i)
  where
    go : (config : Option GuestConfig) → EachGuest P (with_started p i config)
    go None = all
    go (Some config) = All-set (λ h. IfSome h P) p.guests i (Some (started config)) (starts config) all

pub each-stop : (P : GuestRecord → Type 0) (p : PoolView) (i : ℕ) → EachGuest P p → EachGuest P (stopped_at p i)
each-stop P p i all = All-set (λ h. IfSome h P) p.guests i None tt all

-- ---- no buffer is posted

pub served-serve_all : (p : PoolView) → EachGuest HasNothingPosted (all_changed serviced p)
served-serve_all p = each-made HasNothingPosted serviced p serviced-nothing_posted

pub served-spares_back_all : (p : PoolView) → EachGuest HasNothingPosted p → EachGuest HasNothingPosted (with_spares_back p)
served-spares_back_all p served = each-all HasNothingPosted without_spares p without_spares-nothing_posted served

pub served-start : (p : PoolView) (i : ℕ) → EachGuest HasNothingPosted p → EachGuest HasNothingPosted (started_at p i)
served-start p i served = each-start HasNothingPosted p i started-nothing_posted served

pub served-stop : (p : PoolView) (i : ℕ) → EachGuest HasNothingPosted p → EachGuest HasNothingPosted (stopped_at p i)
served-stop p i served = each-stop HasNothingPosted p i served

pub served-release : (count : ℕ) (p : PoolView) (i : ℕ) → EachGuest HasNothingPosted p → EachGuest HasNothingPosted (released_at count p i)
served-release count p i served = each-changed HasNothingPosted (released count) p i (released-nothing_posted count) served

pub served-release_all : (counts : List ℕ) (p : PoolView) → EachGuest HasNothingPosted p → EachGuest HasNothingPosted (with_released counts p)
served-release_all counts p served = each-release_all HasNothingPosted counts p.guests released-nothing_posted served

pub served-revoke : (p : PoolView) (i : ℕ) → EachGuest HasNothingPosted p → EachGuest HasNothingPosted (changed revoked p i)
served-revoke p i served = each-changed HasNothingPosted revoked p i revoked-nothing_posted served

pub served-grant : (p : PoolView) (i : ℕ) → EachGuest HasNothingPosted p → EachGuest HasNothingPosted (granted_at p i)
served-grant p i served = each-changed HasNothingPosted granted p i granted-nothing_posted served

pub served-set_cap : (cap : ℕ) (p : PoolView) (i : ℕ) → EachGuest HasNothingPosted p → EachGuest HasNothingPosted (changed (λ g. with_cap g cap) p i)
served-set_cap cap p i served = each-changed HasNothingPosted (λ g. with_cap g cap) p i (λ g nothing. with_cap-nothing_posted g cap nothing) served

pub served-set_shares : (shares : ℕ) (p : PoolView) (i : ℕ) → EachGuest HasNothingPosted p → EachGuest HasNothingPosted (changed (λ g. with_shares g shares) p i)
served-set_shares shares p i served = each-changed HasNothingPosted (λ g. with_shares g shares) p i (λ g nothing. with_shares-nothing_posted g shares nothing) served

pub served-set_min : (least : ℕ) (p : PoolView) (i : ℕ) → EachGuest HasNothingPosted p → EachGuest HasNothingPosted (with_min_at least p i)
served-set_min least p i served = each-changed HasNothingPosted (with_min_held least) p i (λ g nothing. nothing) served

pub served-order : (blocked : Bool) (p : PoolView) (i : ℕ) → EachGuest HasNothingPosted p → EachGuest HasNothingPosted (changed (λ g. ordered g blocked) p i)
served-order blocked p i served = each-changed HasNothingPosted (λ g. ordered g blocked) p i (λ g nothing. ordered-nothing_posted g blocked nothing) served

pub served-order_all : (blocks : Bool) (p : PoolView) → EachGuest HasNothingPosted p → EachGuest HasNothingPosted (with_orders blocks p)
served-order_all blocks p served =
    each-all HasNothingPosted (λ g. ordered g (blocked_above blocks g)) p (λ g nothing. ordered-nothing_posted g (blocked_above blocks g) nothing) served
