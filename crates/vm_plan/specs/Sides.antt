-- The two sides of a rebalancing, what guests gave and what they took: for private contracts alone.
use Rattle.std.specs.Prelude.{ℕ, ◌≡◌, ◌*◌, ◌+◌, ◌<◌, ◌≤◌, ◌⊎◌, List, Option, Some, IsSomeAnd, slice_get}
use Rattle.vm_tax.specs.declared.price.Price.{Price}
use Rattle.vm_tax.specs.Ratio.{Ratio, Tax, IsLess, hundredths}
use Rattle.vm_tax.specs.Offers.{offer_at}
use Rattle.vm_plan.specs.declared.tracking.Kind.{Kind}
use Rattle.vm_plan.specs.declared.tracking.Kind.TheVariants.{Revocable, Taking}
use Rattle.vm_plan.specs.Rebalancing.{taking_ratios, ComesBack}
use Rattle.vm_plan.specs.Row.{Row, ratio_with, revocable_ratios}
use Rattle.vm_plan.specs.Runs.{lowered_row, raised_row}
use Rattle.vm_plan.specs.Track.{IsTracked}

-- one price is no greater than another
abbrev pub IsAtMost : Ratio → Ratio → Type 0
IsAtMost a b = a.shares * b.weighted_pages ≤ b.shares * a.weighted_pages

-- nobody would pay more than this for one page more
abbrev pub Caps : Tax → Ratio → List Row → Type 0
Caps tax cap rows = (k : ℕ) (that : Ratio) → offer_at (taking_ratios tax rows) k ≡ Some that → IsAtMost that cap

-- nobody above its floor has a lower price
abbrev pub Floors : Tax → Ratio → List Row → Type 0
Floors tax floor rows = (k : ℕ) (that : Ratio) → offer_at (revocable_ratios tax rows) k ≡ Some that → IsAtMost floor that

-- The guest has a price that nobody would pay more than, as one that took pages.
pub record Keeps (tax : Tax) (rows : List Row) (guest : ℕ) : Type 0 where
  pub cap : Ratio
  pub some : 0 < cap.shares
  pub caps : Caps tax cap rows
  pub high : IsSomeAnd (slice_get rows guest) (λ row. IsAtMost cap (ratio_with tax row row.target))

-- The guest would pay no more than anybody's price, as one that gave pages.
pub record Spares (tax : Tax) (rows : List Row) (guest : ℕ) : Type 0 where
  pub floor : Ratio
  pub some : 0 < floor.shares
  pub floors : Floors tax floor rows
  pub low : IsSomeAnd (slice_get rows guest) (λ row. IsAtMost (ratio_with tax row (row.target + 1)) floor)

-- the guest is as on the other side but for the pages that it took, or gave
pub record HasTaken (rows own : List Row) (guest : ℕ) : Type 0 where
  pub count : ℕ
  pub row : Row
  pub before : slice_get own guest ≡ Some row
  pub after : slice_get rows guest ≡ Some (raised_row count row)

pub record HasGiven (rows grown : List Row) (guest : ℕ) : Type 0 where
  pub count : ℕ
  pub row : Row
  pub before : slice_get grown guest ≡ Some row
  pub after : slice_get rows guest ≡ Some (lowered_row count row)

-- Who took pages keeps them; the others are as if nobody took any.
abbrev pub AreOwn : Tax → (rows own : List Row) → Type 0
AreOwn tax rows own = (k : ℕ) → (slice_get rows k ≡ slice_get own k) ⊎ (Keeps tax rows k × HasTaken rows own k)

-- Who gave pages takes none; the others are as if nobody gave any.
abbrev pub AreGrown : Tax → (rows grown : List Row) → Type 0
AreGrown tax rows grown = (k : ℕ) → (slice_get rows k ≡ slice_get grown k) ⊎ (Spares tax rows k × HasGiven rows grown k)

-- The prices of givers are those of guests as if nobody took pages, and those of takers as if nobody gave any.
pub record AreSides (tax : ℕ) (rows : List Row) (givers takers : List (Option Price)) : Type 0 where
  pub own : List Row
  pub grown : List Row
  pub are_own : AreOwn (hundredths tax) rows own
  pub are_grown : AreGrown (hundredths tax) rows grown
  pub giving : IsTracked Revocable tax givers own
  pub taking : IsTracked Taking tax takers grown

-- Of two guests the second would pay more for one page more than the price of the first, and what this gives doesn't come straight back.
pub record Pays (tax : Tax) (rows : List Row) (giver taker : ℕ) : Type 0 where
  pub from : Row
  pub to : Row
  pub from_at : slice_get rows giver ≡ Some from
  pub to_at : slice_get rows taker ≡ Some to
  pub more : IsLess (ratio_with tax from from.target) (ratio_with tax to (to.target + 1))
  pub stays : ¬ ComesBack tax rows giver

-- The prices are those of a side on which a guest is as it is.
pub record IsSideAt (kind : Kind) (tax : ℕ) (prices : List (Option Price)) (rows : List Row) (guest : ℕ) : Type 0 where
  pub side : List Row
  pub tracked : IsTracked kind tax prices side
  pub same : slice_get side guest ≡ slice_get rows guest
