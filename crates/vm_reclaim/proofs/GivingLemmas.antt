-- The rows of a rebalancing list follow the guests as it counts them, so that each of its entries is a fair move.
use Rattle.std.proofs.Common.{◌≡◌, ◌∙◌, ◌≢◌, ℕ, zero, suc, ◌+◌, ◌<◌, ◌≤◌, ◌⊎◌, ◌&&◌, Bool, true, false, List, [], ◌∷◌, Option, Some, None, IsTrue, slice_get, max, inl, inr, ⊎_elim, sym, refl, ap, subst, arith, if◌then◌else◌}
use Rattle.std.specs.Prelude.{⊤}
use Rattle.std.specs.Option.{option_map}
use Rattle.std.proofs.lemmas.Bool.{cases_eq, cond_below, false≢true, lt-ltb}
use Rattle.vm_guest.specs.Boundary.{revoked, with_grant}
use Rattle.vm_guest.specs.Record.{GuestRecord}
use Rattle.vm_pages.specs.Pages.{count}
use Rattle.vm_plan.specs.Rebalancing.{taking_ratio, taken_row, transferred, given_by, IsTransfer}
use Rattle.vm_plan.specs.Revocation.{revoked_row}
use Rattle.vm_plan.specs.Row.{Row, HaveShares, ratio_with, revocable_ratio, wants_to_grow}
use Rattle.vm_plan.specs.Sides.{Keeps}
use Rattle.vm_plan.proofs.ChangeLemmas.{offer_of}
use Rattle.vm_plan.proofs.KeepLemmas.{Each, each_after, first_of, given-have_shares, keeper_gives_none, keeper_keeps, taker_keeps}
use Rattle.vm_plan.proofs.TransferLemmas.{given_is, giver_after, other_after, parties, taker_after, two_parties}
use Rattle.vm_pool.specs.Guests.{Guests, guest_changed, guest_in}
use Rattle.vm_sampling.specs.Sampling.{active}
use Rattle.vm_tax.specs.Ratio.{Ratio, Tax, IsAbove, IsBelow, IsLess, adjusted_ratio}
use Rattle.vm_reclaim.specs.Fairness.{GivesFromCheapest, IsFairMove, page_moved, price_for_more, price_of}
use Rattle.vm_reclaim.specs.Rebalance.{giving_at, giving_row, giving_rows, has_own_driver}
use Rattle.vm_reclaim.specs.Rows.{row_of}
use Rattle.vm_reclaim.proofs.CanLemmas.{changed_here}
use Rattle.vm_reclaim.proofs.DriverLemmas.{driver-revoked, driver-with_grant}
use Rattle.vm_reclaim.proofs.TakeLemmas.{other_same}

-- ---- rows and guests

-- a row without what no price speaks of
abbrev plain : Row → Row
plain row = record row { min = 0; held = 0; used = 0 }

-- what a guest doesn't give
abbrev needed : GuestRecord → ℕ
needed g = max g.allotment.min (count g.used)

-- the row is above its minimum only where the guest can give
abbrev IsFresh : Row → GuestRecord → Type 0
IsFresh row g = row.min < row.target → IsTrue (has_own_driver g) × (needed g ≤ row.min)

-- the row of a guest as the list counts it, which took a page or is fresh
record IsRowOf (tax : Tax) (rows : List Row) (k : ℕ) (row : Row) (g : GuestRecord) : Type 0 where
  same : plain row ≡ plain (row_of g)
  low : IsTrue (has_own_driver g) → row.min ≤ needed g
  fresh : Keeps tax rows k ⊎ IsFresh row g

-- where no guest runs, the row neither gives nor takes
record IsIdle (row : Row) : Type 0 where
  full : row.target ≤ row.min
  content : row.demand ≡ 0

abbrev Stands : Tax → List Row → ℕ → Option Row → Option GuestRecord → Type 0
Stands tax rows k None None = ⊤
Stands tax rows k None (Some g) = ⊥
Stands tax rows k (Some row) None = IsIdle row
Stands tax rows k (Some row) (Some g) = IsRowOf tax rows k row g

abbrev Follow : Tax → List Row → Guests → Type 0
Follow tax rows guests = (k : ℕ) → Stands tax rows k (slice_get rows k) (guest_in guests k)

-- ---- at first

stands-giving : (tax : Tax) (rows : List Row) (at : ℕ) (guest : Option GuestRecord) → Stands tax rows at (Some (giving_at guest)) guest
stands-giving tax rows at None = record { full = omega arith; content = refl }
stands-giving tax rows at (Some g) = go (has_own_driver g) refl
  where
    go : (own : Bool) → has_own_driver g ≡ own → IsRowOf tax rows at (giving_row own (row_of g)) g
    go true is = record { same = refl; low = λ own. omega arith; fresh = inr (λ above. (is, omega (arith, above))) }
    go false is = record { same = refl; low = λ own. absurd (false≢true (sym is ∙ own)); fresh = inr (λ above. absurd (omega (arith, above))) }

follow-at : (tax : Tax) (rows : List Row) (at : ℕ) (guests : Guests) (k : ℕ) → Stands tax rows at (slice_get (giving_rows guests) k) (guest_in guests k)
follow-at tax rows at [] k = tt
follow-at tax rows at (guest ∷ guests) zero = stands-giving tax rows at guest
follow-at tax rows at (guest ∷ guests) (suc k) = follow-at tax rows at guests k

follow-giving : (tax : Tax) (guests : Guests) → Follow tax (giving_rows guests) guests
follow-giving tax guests k = follow-at tax (giving_rows guests) k guests k

-- ---- who is at a position

module _ (tax : Tax) (rows : List Row) (guests : Guests) (follow : Follow tax rows guests) where
  -- who gives is a guest
  giver-guest : (k : ℕ) (row : Row) → slice_get rows k ≡ Some row → row.min < row.target → (g : GuestRecord) × ((guest_in guests k ≡ Some g) × IsRowOf tax rows k row g)
  giver-guest k row at above = go (guest_in guests k) refl (subst (λ (o : Option Row). Stands tax rows k o (guest_in guests k)) at (follow k))
    where
      go : (o : Option GuestRecord) → guest_in guests k ≡ o → Stands tax rows k (Some row) o → (g : GuestRecord) × ((guest_in guests k ≡ Some g) × IsRowOf tax rows k row g)
      go None is stands = let full = stands.full in absurd (omega (arith, above, full))
      go (Some g) is stands = (g, (is, stands))

  -- who takes is one
  taker-guest : (k : ℕ) (row : Row) → slice_get rows k ≡ Some row → 0 < row.demand → (g : GuestRecord) × ((guest_in guests k ≡ Some g) × IsRowOf tax rows k row g)
  taker-guest k row at wants = go (guest_in guests k) refl (subst (λ (o : Option Row). Stands tax rows k o (guest_in guests k)) at (follow k))
    where
      go : (o : Option GuestRecord) → guest_in guests k ≡ o → Stands tax rows k (Some row) o → (g : GuestRecord) × ((guest_in guests k ≡ Some g) × IsRowOf tax rows k row g)
      go None is stands = let content = stands.content in absurd (omega (arith, wants, content))
      go (Some g) is stands = (g, (is, stands))

  -- a guest has a row
  guest-row : (k : ℕ) (g : GuestRecord) → guest_in guests k ≡ Some g → (row : Row) × ((slice_get rows k ≡ Some row) × IsRowOf tax rows k row g)
  guest-row k g here = go (slice_get rows k) refl (subst (λ (o : Option GuestRecord). Stands tax rows k (slice_get rows k) o) here (follow k))
    where
      go : (o : Option Row) → slice_get rows k ≡ o → Stands tax rows k o (Some g) → (row : Row) × ((slice_get rows k ≡ Some row) × IsRowOf tax rows k row g)
      go None is stands = absurd stands
      go (Some row) is stands = (row, (is, stands))

-- ---- an entry is a fair move

price-same : (tax : Tax) (row : Row) (g : GuestRecord) (pages : ℕ) → plain row ≡ plain (row_of g) → ratio_with tax row pages ≡ adjusted_ratio tax g.allotment.shares pages (active g.sampling)
price-same tax row g pages same = ap (λ (r : Row). ratio_with tax r pages) same

-- at the target of the guest, and one page more
price-at : (tax : Tax) (row : Row) (g : GuestRecord) → plain row ≡ plain (row_of g) → ratio_with tax row row.target ≡ price_of tax g
price-at tax row g same = let target : row.target ≡ g.allotment.target = ap (λ (r : Row). r.target) same in ap (ratio_with tax row) target ∙ price-same tax row g g.allotment.target same

price-above : (tax : Tax) (row : Row) (g : GuestRecord) → plain row ≡ plain (row_of g) → ratio_with tax row (row.target + 1) ≡ price_for_more tax g
price-above tax row g same =
    let target : row.target ≡ g.allotment.target = ap (λ (r : Row). r.target) same in
    ap (λ n. ratio_with tax row (n + 1)) target ∙ price-same tax row g (g.allotment.target + 1) same

wants-both : (row : Row) → 0 < row.demand → row.target < row.cap → wants_to_grow row ≡ true
wants-both row demand room = let some = lt-ltb 0 row.demand demand in let below = lt-ltb row.target row.cap room in λ i. some i && below i

module _ (tax : Tax) (rows : List Row) (guests : Guests) (follow : Follow tax rows guests) (h : HaveShares rows) (giver taker : ℕ) (t : IsTransfer tax rows giver taker) where
  fresh-giver : (row : Row) (g : GuestRecord) → IsRowOf tax rows giver row g → IsFresh row g
  fresh-giver row g is = ⊎_elim (λ keeps. absurd (keeper_gives_none tax rows giver taker h t keeps)) (λ fresh. fresh) is.fresh

  fair : IsFairMove tax guests giver taker
  fair =
      let p = parties tax rows giver taker t in
      let from = giver-guest tax rows guests follow giver p.from p.from_at p.above in
      let to = taker-guest tax rows guests follow taker p.to p.to_at p.demand in
      let giving = from.0 in
      let taking = to.0 in
      let above = p.above in
      let demand = p.demand in
      let room = p.room in
      let fresh = fresh-giver p.from giving from.1.1 p.above in
      let much = fresh.1 in
      let from_target : p.from.target ≡ giving.allotment.target = ap (λ (r : Row). r.target) from.1.1.same in
      let to_target : p.to.target ≡ taking.allotment.target = ap (λ (r : Row). r.target) to.1.1.same in
      let to_demand : p.to.demand ≡ taking.allotment.demand = ap (λ (r : Row). r.demand) to.1.1.same in
      let to_cap : p.to.cap ≡ taking.allotment.cap = ap (λ (r : Row). r.cap) to.1.1.same in
      let price : t.least.ratio ≡ price_of tax giving = sym p.price ∙ price-at tax p.from giving from.1.1.same in
      let pays : t.most.ratio ≡ price_for_more tax taking = sym p.pays ∙ price-above tax p.to taking to.1.1.same in
      record {
        gives = record {
          guest = giving;
          here = from.1.0;
          above_floor = record {
            drives = fresh.0;
            above_minimum = omega (arith, much, above, from_target);
            above_used = omega (arith, much, above, from_target);
          };
          below_others = λ other that there floor apart.
              let found = guest-row tax rows guests follow other that there in
              let row = found.0 in
              let low = found.1.1.low floor.drives in
              let target : row.target ≡ that.allotment.target = ap (λ (r : Row). r.target) found.1.1.same in
              let least = floor.above_minimum in
              let used = floor.above_used in
              let over : row.min < row.target = omega (arith, low, target, least, used) in
              let offered = offer_of (revocable_ratio tax) rows other row found.1.0 ∙ sym (cond_below row.min row.target (Some (ratio_with tax row row.target)) None over) in
              subst (λ (r : Ratio). IsBelow r giver (price_of tax that) other) price
              (subst (λ (r : Ratio). IsBelow t.least.ratio giver r other) (price-at tax row that found.1.1.same)
              (t.least.before_others other (ratio_with tax row row.target) offered apart));
        };
        takes = record {
          guest = taking;
          here = to.1.0;
          wants = record { demand = omega (arith, demand, to_demand); room = omega (arith, room, to_target, to_cap) };
          above_others = λ other that there wants apart.
              let found = guest-row tax rows guests follow other that there in
              let row = found.0 in
              let target : row.target ≡ that.allotment.target = ap (λ (r : Row). r.target) found.1.1.same in
              let cap : row.cap ≡ that.allotment.cap = ap (λ (r : Row). r.cap) found.1.1.same in
              let pages : row.demand ≡ that.allotment.demand = ap (λ (r : Row). r.demand) found.1.1.same in
              let some = wants.demand in
              let below = wants.room in
              let test = wants-both row (omega (arith, pages, some)) (omega (arith, target, cap, below)) in
              let offered = offer_of (taking_ratio tax) rows other row found.1.0 ∙ ap (λ (b : Bool). if b then Some (ratio_with tax row (row.target + 1)) else None) test in
              subst (λ (r : Ratio). IsAbove r taker (price_for_more tax that) other) pays
              (subst (λ (r : Ratio). IsAbove t.most.ratio taker r other) (price-above tax row that found.1.1.same)
              (t.most.before_others other (ratio_with tax row (row.target + 1)) offered apart));
        };
        pays_more = subst (λ (r : Ratio). IsLess r (price_for_more tax taking)) price (subst (λ (r : Ratio). IsLess t.least.ratio r) pays t.pays_more);
      }

  -- ---- and the rows after it follow the guests after it

  abbrev after : List Row
  after = transferred rows giver taker

  abbrev moved : Guests
  moved = page_moved guests giver taker

  stands-is : (k : ℕ) (row row' : Option Row) (guest guest' : Option GuestRecord) → row ≡ row' → guest ≡ guest' → Stands tax after k row' guest' → Stands tax after k row guest
  stands-is k row row' guest guest' same is stands =
      subst (λ (o : Option Row). Stands tax after k o guest) (sym same) (subst (λ (o : Option GuestRecord). Stands tax after k row' o) (sym is) stands)

  stands-kept : (k : ℕ) (row : Option Row) (guest : Option GuestRecord) → Stands tax rows k row guest → Stands tax after k row guest
  stands-kept k None None stands = tt
  stands-kept k None (Some g) stands = absurd stands
  stands-kept k (Some row) None stands = stands
  stands-kept k (Some row) (Some g) stands = record {
    same = stands.same;
    low = stands.low;
    fresh = ⊎_elim (λ keeps. inl (keeper_keeps tax rows giver taker k h t keeps)) (λ fresh. inr fresh) stands.fresh;
  }

  taker-stands : Stands tax after taker (slice_get after taker) (guest_in moved taker)
  taker-stands =
      let p = parties tax rows giver taker t in
      let two = two_parties tax rows giver taker t in
      let to = taker-guest tax rows guests follow taker p.to p.to_at p.demand in
      let g = to.0 in
      stands-is taker (slice_get after taker) (Some (taken_row p.to)) (guest_in moved taker) (Some (with_grant g)) (taker_after rows giver taker p.to two p.to_at)
      (changed_here with_grant (guest_changed revoked guests giver) taker ∙ ap (option_map with_grant) (other_same revoked guests giver taker two ∙ to.1.0))
      (record {
        same = ap taken_row to.1.1.same;
        low = λ own. to.1.1.low (sym (driver-with_grant g) ∙ own);
        fresh = inl (taker_keeps tax rows giver taker h t);
      })

  giver-stands : Stands tax after giver (slice_get after giver) (guest_in moved giver)
  giver-stands =
      let p = parties tax rows giver taker t in
      let two = two_parties tax rows giver taker t in
      let from = giver-guest tax rows guests follow giver p.from p.from_at p.above in
      let g = from.0 in
      let fresh = fresh-giver p.from g from.1.1 p.above in
      stands-is giver (slice_get after giver) (Some (revoked_row p.from)) (guest_in moved giver) (Some (revoked g)) (giver_after rows giver taker p.from two p.from_at)
      (other_same with_grant (guest_changed revoked guests giver) taker giver (λ e. two (sym e)) ∙ (changed_here revoked guests giver ∙ ap (option_map revoked) from.1.0))
      (record {
        same = ap revoked_row from.1.1.same;
        low = λ own. from.1.1.low (sym (driver-revoked g) ∙ own);
        fresh = inr (λ above. (driver-revoked g ∙ fresh.0, fresh.1));
      })

  follow-after : Follow tax after moved
  follow-after k =
      ⊎_elim
      (λ (same : k ≡ taker). subst (λ (n : ℕ). Stands tax after n (slice_get after n) (guest_in moved n)) (sym same) taker-stands)
      (λ (ne : k ≢ taker). ⊎_elim
      (λ (same : k ≡ giver). subst (λ (n : ℕ). Stands tax after n (slice_get after n) (guest_in moved n)) (sym same) giver-stands)
      (λ (ne' : k ≢ giver).
      stands-is k (slice_get after k) (slice_get rows k) (guest_in moved k) (guest_in guests k) (other_after rows giver taker k ne' ne)
      (other_same with_grant (guest_changed revoked guests giver) taker k (λ e. ne (sym e)) ∙ other_same revoked guests giver k (λ e. ne' (sym e)))
      (stands-kept k (slice_get rows k) (guest_in guests k) (follow k)))
      (cases_eq k giver))
      (cases_eq k taker)

-- ---- the whole list

gives-fairly : (tax : Tax) (rows : List Row) (guests : Guests) (givers : List ℕ) → HaveShares rows → Follow tax rows guests → Each tax rows givers → GivesFromCheapest tax guests givers
gives-fairly tax rows guests [] h follow each = tt
gives-fairly tax rows guests (giver ∷ givers) h follow each =
    let next = first_of tax rows giver givers each in
    let taker = next.0 in
    let t = next.1 in (
      taker,
      (
        fair tax rows guests follow h giver taker t,
        gives-fairly tax (given_by tax rows giver) (page_moved guests giver taker) givers (given-have_shares tax rows giver taker h t)
            (subst (λ (xs : List Row). Follow tax xs (page_moved guests giver taker)) (sym (given_is tax rows giver taker h t)) (follow-after tax rows guests follow h giver taker t))
            (each_after tax rows giver givers each),
      ),
    )

-- each entry takes from the guest that is cheapest then, where takers have what earlier ones took for them
pub fair-rebalancing : (tax : Tax) (guests : Guests) (givers : List ℕ) → HaveShares (giving_rows guests) → Each tax (giving_rows guests) givers → GivesFromCheapest tax guests givers
fair-rebalancing tax guests givers h each = gives-fairly tax (giving_rows guests) guests givers h (follow-giving tax guests) each
