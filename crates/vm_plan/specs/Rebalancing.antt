-- Idle memory moves to guests that would pay more for it (Waldspurger, OSDI 2002, section 6.3).
--
-- In the rows a guest's minimum is its floor: what it can't give without paging.
use Rattle.std.specs.Prelude.{ℕ, zero, suc, ◌≡◌, ◌+◌, ◌-◌, ◌<◌, ◌≤◌, ◌==◌, ◌&&◌, Bool, false, not, List, [], ◌∷◌, Option, Some, None, fold, length, map, slice_index, take, if◌then◌else◌}
use Rattle.std.specs.Option.{option_map_or}
use Rattle.vm_tax.specs.Ratio.{Ratio, Tax, IsLess, is_less}
use Rattle.vm_tax.specs.Offers.{IsLeast, IsGreatest, Offer, least_offer, greatest_offer, greatest_position}
use Rattle.vm_plan.specs.Row.{Row, ratio_with, wants_to_grow, revocable_ratios, wanting_ratios, change_at}
use Rattle.vm_plan.specs.Revocation.{revoked_row}
use Rattle.vm_plan.specs.Moves.{EachMove}

-- what a guest that wants to grow would pay for one page more: its price with that page
abbrev pub taking_ratio : Tax → Row → Option Ratio
taking_ratio tax row = if wants_to_grow row then Some (ratio_with tax row (row.target + 1)) else None

-- what guests would pay for one page more, guest by guest
abbrev pub taking_ratios : Tax → List Row → List (Option Ratio)
taking_ratios tax rows = map (taking_ratio tax) rows

-- a guest that took a page
abbrev pub taken_row : Row → Row
taken_row row = record row { target = row.target + 1; demand = row.demand - 1 }

-- the guests after one gave a page and another took it
abbrev pub transferred : List Row → (giver taker : ℕ) → List Row
transferred rows giver taker = change_at taken_row (change_at revoked_row rows giver) taker

-- the guests after one gave a page to the guest that would pay most for it
abbrev pub given_by : Tax → List Row → ℕ → List Row
given_by tax rows giver = option_map_or (transferred rows giver) (greatest_position (taking_ratios tax rows)) rows

-- the guests after these gave a page each
abbrev pub rows_given : Tax → List Row → List ℕ → List Row
rows_given tax rows givers = fold (given_by tax) rows givers

-- What a guest gives would come straight back: with one page less it would be the first to be granted one.
abbrev pub ComesBack : Tax → List Row → ℕ → Type 0
ComesBack tax rows giver = IsGreatest (wanting_ratios tax (change_at revoked_row rows giver)) giver

-- A page goes from the guest of least price among those above their floor to the guest that would pay most for it. That is more than
-- the price, and the page doesn't come straight back.
pub record IsTransfer (tax : Tax) (rows : List Row) (giver taker : ℕ) : Type 0 where
  pub least : IsLeast (revocable_ratios tax rows) giver
  pub most : IsGreatest (taking_ratios tax rows) taker
  pub pays_more : IsLess least.ratio most.ratio
  pub stays : ¬ ComesBack tax rows giver

-- the guest gives a page to some guest
abbrev pub IsNextGiver : Tax → List Row → ℕ → Type 0
IsNextGiver tax rows giver = (taker : ℕ) × IsTransfer tax rows giver taker

-- Each entry is the next giver after those before it. There are at most so many entries, and fewer only where there is no next giver
-- after the last.
pub record IsRebalancingList (tax : Tax) (limit : ℕ) (rows : List Row) (givers : List ℕ) : Type 0 where
  pub each_next : EachMove (λ before giver. IsNextGiver tax (rows_given tax rows before) giver) givers
  pub no_more : length givers ≤ limit
  pub ends : length givers < limit → (giver : ℕ) → ¬ IsNextGiver tax (rows_given tax rows givers) giver

-- ---- the same as a function (law_rebalancing_list)

-- whether what a guest gives would come straight back
abbrev pub comes_back : Tax → List Row → ℕ → Bool
comes_back tax rows giver = option_map_or (λ first. first == giver) (greatest_position (wanting_ratios tax (change_at revoked_row rows giver))) false

-- the guest of least price, where another one would pay more and nothing comes straight back
abbrev pub giver_of : Tax → List Row → (giver taker : Option Offer) → Option ℕ
giver_of tax rows None taker = None
giver_of tax rows (Some giver) None = None
giver_of tax rows (Some giver) (Some taker) = if is_less giver.ratio taker.ratio && not (comes_back tax rows giver.position) then Some giver.position else None

abbrev pub next_giver : Tax → List Row → Option ℕ
next_giver tax rows = giver_of tax rows (least_offer (revocable_ratios tax rows)) (greatest_offer (taking_ratios tax rows))

-- the next giver, at most so often, as long as there is one
-- the one list that is such: IsRebalancingList, by vm_plan::law_rebalancing_list
unfoldable pub rebalancing_list : Tax → ℕ → List Row → List ℕ
rebalancing_list tax zero rows = []
rebalancing_list tax (suc limit) rows = option_map_or (λ giver. giver ∷ rebalancing_list tax limit (given_by tax rows giver)) (next_giver tax rows) []

-- ---- laws of the list

-- Nobody gives after it took: the taker of an entry isn't the giver of a later one.
abbrev pub TakersKeep : Tax → List Row → List ℕ → Type 0
TakersKeep tax rows givers = (i j : ℕ) → i < j → j < length givers → ¬ (greatest_position (taking_ratios tax (rows_given tax rows (take i givers))) ≡ Some (slice_index givers j))

-- Nobody takes after it gave: the giver of an entry isn't the taker of a later one.
abbrev pub GiversTakeNone : Tax → List Row → List ℕ → Type 0
GiversTakeNone tax rows givers = (i j : ℕ) → i < j → j < length givers → ¬ (greatest_position (taking_ratios tax (rows_given tax rows (take j givers))) ≡ Some (slice_index givers i))

-- What is paid most for one page more never rises.
abbrev pub MostFalls : Tax → List Row → List ℕ → Type 0
MostFalls tax rows givers = (i j p q : ℕ) → i ≤ j → j ≤ length givers
    → (early : IsGreatest (taking_ratios tax (rows_given tax rows (take i givers))) p) → (late : IsGreatest (taking_ratios tax (rows_given tax rows (take j givers))) q) → ¬ IsLess early.ratio late.ratio

-- The least price among those above their floor never falls.
abbrev pub LeastRises : Tax → List Row → List ℕ → Type 0
LeastRises tax rows givers = (i j p q : ℕ) → i ≤ j → j ≤ length givers
    → (early : IsLeast (revocable_ratios tax (rows_given tax rows (take i givers))) p) → (late : IsLeast (revocable_ratios tax (rows_given tax rows (take j givers))) q) → ¬ IsLess late.ratio early.ratio
