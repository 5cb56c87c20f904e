-- Whose memory is taken, in the words of the subject: each revocation takes a page from a guest above its minimum whose adjusted ratio
-- of shares to pages is least (min-funding revocation with a tax on idle memory: Waldspurger, OSDI 2002, sections 5.1 and 5.2).
use Rattle.std.specs.Prelude.{◌≡◌, ◌≢◌, ℕ, ◌+◌, ◌<◌, ◌≤◌, ⊤, List, [], ◌∷◌, IsTrue, Option, Some}
use Rattle.vm_guest.specs.Boundary.{revoked, with_grant}
use Rattle.vm_guest.specs.Record.{GuestRecord}
use Rattle.vm_pages.specs.Pages.{count}
use Rattle.vm_sampling.specs.Sampling.{active}
use Rattle.vm_tax.specs.Ratio.{Ratio, Tax, IsAbove, IsBelow, IsLess, adjusted_ratio}
use Rattle.vm_pool.specs.Changes.{taken_at}
use Rattle.vm_pool.specs.Guests.{Guests, guest_changed, guest_in}
use Rattle.vm_pool.specs.Pool.{PoolView}
use Rattle.vm_reclaim.specs.declared.room.Raise.{Raise}
use Rattle.vm_reclaim.specs.Policy.{Policy}
use Rattle.vm_reclaim.specs.Rebalance.{has_own_driver}
use Rattle.vm_reclaim.specs.Room.{raised, revocations_for_room, with_surplus_back}

-- the adjusted ratio of a guest's shares to its pages
abbrev pub price_of : Tax → GuestRecord → Ratio
price_of tax g = adjusted_ratio tax g.allotment.shares g.allotment.target (active g.sampling)

abbrev pub IsAboveMinimum : GuestRecord → Type 0
IsAboveMinimum g = g.allotment.min < g.allotment.target

-- the minimum is never taken from it
abbrev pub IsAtMinimum : GuestRecord → Type 0
IsAtMinimum g = g.allotment.target ≤ g.allotment.min

-- There is a guest at the position that is above its minimum, and its price is below that of each other such guest; of equal prices
-- that of the lower position counts as below.
pub record IsCheapest (tax : Tax) (guests : Guests) (position : ℕ) : Type 0 where
  pub guest : GuestRecord
  pub here : guest_in guests position ≡ Some guest
  pub above_minimum : IsAboveMinimum guest
  pub below_others : (other : ℕ) (that : GuestRecord) → guest_in guests other ≡ Some that → IsAboveMinimum that → other ≢ position
      → IsBelow (price_of tax guest) position (price_of tax that) other

-- each of these, one after the other, takes from the guest that is cheapest then, where `take` is what it does
abbrev pub TakesFromCheapest : Tax → (take : PoolView → ℕ → PoolView) → PoolView → List ℕ → Type 0
TakesFromCheapest tax take pool [] = ⊤
TakesFromCheapest tax take pool (position ∷ moves) =
    IsCheapest tax pool.guests position × TakesFromCheapest tax take (take pool position) moves

-- ---- the revocations that a command needs

-- each revocation for room takes from the guest that is cheapest then, where the guest whose minimum is raised counts as having it
-- already
abbrev pub TakesFairly : Policy → Option Raise → ℕ → PoolView → Type 0
TakesFairly policy raise needed pool =
    let left = with_surplus_back raise needed pool in
    TakesFromCheapest policy.tax taken_at (raised raise left) (revocations_for_room policy.tax raise needed pool)

-- ---- the pages that move to guests that would pay more for them (section 6.3)

-- Without paging a guest can give a page: its target is above its minimum and above what it uses, and it has a driver of its own.
pub record IsAboveFloor (g : GuestRecord) : Type 0 where
  pub drives : IsTrue (has_own_driver g)
  pub above_minimum : g.allotment.min < g.allotment.target
  pub above_used : count g.used < g.allotment.target

-- There is a guest at the position that can give a page, and its price is below that of each other such guest; of equal prices that of
-- the lower position counts as below.
pub record IsCheapestToGive (tax : Tax) (guests : Guests) (position : ℕ) : Type 0 where
  pub guest : GuestRecord
  pub here : guest_in guests position ≡ Some guest
  pub above_floor : IsAboveFloor guest
  pub below_others : (other : ℕ) (that : GuestRecord) → guest_in guests other ≡ Some that → IsAboveFloor that → other ≢ position
      → IsBelow (price_of tax guest) position (price_of tax that) other

-- what a guest would pay for one page more: the adjusted ratio of its shares to its pages with that page
abbrev pub price_for_more : Tax → GuestRecord → Ratio
price_for_more tax g = adjusted_ratio tax g.allotment.shares (g.allotment.target + 1) (active g.sampling)

-- a guest wants a page, and its cap lets it have one
pub record WantsPage (g : GuestRecord) : Type 0 where
  pub demand : 0 < g.allotment.demand
  pub room : g.allotment.target < g.allotment.cap

-- There is a guest at the position that wants a page, and it would pay more than each other such guest; of equal prices that of the lower
-- position counts as above.
pub record PaysMost (tax : Tax) (guests : Guests) (position : ℕ) : Type 0 where
  pub guest : GuestRecord
  pub here : guest_in guests position ≡ Some guest
  pub wants : WantsPage guest
  pub above_others : (other : ℕ) (that : GuestRecord) → guest_in guests other ≡ Some that → WantsPage that → other ≢ position
      → IsAbove (price_for_more tax guest) position (price_for_more tax that) other

-- The cheapest of the guests that can give a page gives one to the guest that would pay most for it, and that is more than its price.
pub record IsFairMove (tax : Tax) (guests : Guests) (giver taker : ℕ) : Type 0 where
  pub gives : IsCheapestToGive tax guests giver
  pub takes : PaysMost tax guests taker
  pub pays_more : IsLess (price_of tax gives.guest) (price_for_more tax takes.guest)

-- the guests as the list counts them once a page moved: the taker has it already
abbrev pub page_moved : Guests → (giver taker : ℕ) → Guests
page_moved guests giver taker = guest_changed with_grant (guest_changed revoked guests giver) taker

-- each of these, one after the other, gives a page by a fair move
abbrev pub GivesFromCheapest : Tax → Guests → List ℕ → Type 0
GivesFromCheapest tax guests [] = ⊤
GivesFromCheapest tax guests (giver ∷ givers) =
    (taker : ℕ) × (IsFairMove tax guests giver taker × GivesFromCheapest tax (page_moved guests giver taker) givers)
