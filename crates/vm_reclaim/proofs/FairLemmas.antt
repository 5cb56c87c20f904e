-- The revocations of a list each take from the cheapest guest: for callers.
use Rattle.std.proofs.Common.{◌≡◌, ◌∙◌, ℕ, zero, suc, ◌<◌, ◌≤◌, IfSome, nat_lt, List, [], ◌∷◌, All, IsNone, Option, Some, None, fold, length, map, slice_set, get_or, ⊎_elim, sym, refl, ap, subst, arith}
use Rattle.std.specs.Prelude.{slice_index_or}
use Rattle.std.specs.Option.{option_map, option_map_or}
use Rattle.std.proofs.lemmas.Bool.{cases_lt, cond_below, ltb-true, true≢false}
use Rattle.std.proofs.lemmas.Option.{none-some, cond_some, slice_get_cases}
use Rattle.std.proofs.lemmas.List.{get_or_past, get_or-map, length-map, map-set}
use Rattle.std.proofs.lemmas.List.Elements.{All-nil, All-cons, All-head, All-tail}
use Rattle.vm_guest.specs.Boundary.{released, revoked}
use Rattle.vm_guest.specs.Memory.{has_spare}
use Rattle.vm_guest.specs.Record.{GuestRecord}
use Rattle.vm_plan.specs.Moves.{EachMove}
use Rattle.vm_plan.specs.Revocation.{revoked_row, rows_after, IsRevocationList}
use Rattle.vm_plan.specs.Row.{Row, change_at, ratio_with, revocable_ratio, revocable_ratios, HaveShares}
use Rattle.vm_tax.specs.Offers.{IsLeast, offer_at}
use Rattle.vm_tax.specs.Ratio.{Ratio, Tax, IsBelow}
use Rattle.vm_reclaim.specs.Fairness.{IsAboveMinimum, IsAtMinimum, IsCheapest, TakesFromCheapest, price_of}
use Rattle.vm_pool.specs.Changes.{changed, taken_at}
use Rattle.vm_pool.specs.Guests.{Guests, guest_changed, guest_in, running, EachRunning}
use Rattle.vm_pool.specs.Pool.{PoolView}
use Rattle.vm_guest.specs.Good.{IsGood}
use Rattle.vm_reclaim.specs.Rows.{idle_row, row_at, row_of, rows_of}
use Rattle.vm_reclaim.proofs.HeldLemmas.{SameButHeld, bare, frame-bare, ratios-same}

-- what is offered at a position is the ratio of the guest there
offered : (tax : Tax) (guests : Guests) (k : ℕ) → offer_at (revocable_ratios tax (rows_of guests)) k ≡ revocable_ratio tax (row_at (guest_in guests k))
offered tax guests k =
    let wide = length-map guests row_at in
    let wider = length-map (rows_of guests) (revocable_ratio tax) in
    ⊎_elim
    (λ here.
    get_or-map (revocable_ratio tax) (rows_of guests) k (row_at here.0) None (omega (arith, here.1, wide))
    ∙ (ap (revocable_ratio tax) (get_or-map row_at guests k here.0 (row_at here.0) here.1)
    ∙ (ap (λ (o : Option GuestRecord). revocable_ratio tax (row_at o)) here.3
    ∙ sym (ap (λ (o : Option (Option GuestRecord)). revocable_ratio tax (row_at (running o))) here.2))))
    (λ past.
    get_or_past (revocable_ratios tax (rows_of guests)) k None (omega (arith, past.0, wide, wider))
    ∙ sym (ap (λ (o : Option (Option GuestRecord)). revocable_ratio tax (row_at (running o))) past.1))
    (slice_get_cases guests k).1

-- a guest above its minimum is offered at its price
offered_above : (tax : Tax) (g : GuestRecord) → IsAboveMinimum g → revocable_ratio tax (row_of g) ≡ Some (price_of tax g)
offered_above tax g above = sym (cond_below g.allotment.min g.allotment.target (Some (price_of tax g)) None above)

pub cheapest-least : (tax : Tax) (guests : Guests) (position : ℕ) → IsLeast (revocable_ratios tax (rows_of guests)) position → IsCheapest tax guests position
cheapest-least tax guests position least = by_guest (guest_in guests position) refl
  where
    here : revocable_ratio tax (row_at (guest_in guests position)) ≡ Some least.ratio
    here = sym (offered tax guests position) ∙ least.here

    by_guest : (o : Option GuestRecord) → guest_in guests position ≡ o → IsCheapest tax guests position
    by_guest None none = absurd (none-some least.ratio (sym (ap (λ (o : Option GuestRecord). revocable_ratio tax (row_at o)) none) ∙ here))
    by_guest (Some g) some =
        let test = cond_some (nat_lt g.allotment.min g.allotment.target) (price_of tax g) least.ratio
        (sym (ap (λ (o : Option GuestRecord). revocable_ratio tax (row_at o)) some) ∙ here) in
        record {
          guest = g;
          here = some;
          above_minimum = ltb-true g.allotment.min g.allotment.target test.0;
          below_others = λ other that there above apart.
              subst (λ (r : Ratio). IsBelow r position (price_of tax that) other) (sym test.1)
              (least.before_others other (price_of tax that)
              (offered tax guests other ∙ (ap (λ (o : Option GuestRecord). revocable_ratio tax (row_at o)) there ∙ offered_above tax that above)) apart);
        }

-- who isn't offered is at the minimum
pub not-above : (tax : Tax) (row : Row) → IsNone (revocable_ratio tax row) → row.target ≤ row.min
not-above tax row none =
    ⊎_elim
    (λ (above : row.min < row.target).
    absurd (true≢false (subst (λ (o : Option Ratio). IsNone o) (sym (cond_below row.min row.target (Some (ratio_with tax row row.target)) None above)) none)))
    (λ (at : row.target ≤ row.min). at)
    (cases_lt row.min row.target)

-- where nobody is offered, each guest is at its minimum
at-minimums : (tax : Tax) (guests : Guests) → All IsNone (revocable_ratios tax (rows_of guests)) → EachRunning IsAtMinimum guests
at-minimums tax [] none = All-nil (λ o. IfSome o IsAtMinimum)
at-minimums tax (guest ∷ guests) none =
    All-cons (λ o. IfSome o IsAtMinimum) guest guests
    (at guest (All-head (λ (o : Option Ratio). IsNone o) (revocable_ratio tax (row_at guest)) (revocable_ratios tax (rows_of guests)) none))
    (at-minimums tax guests (All-tail (λ (o : Option Ratio). IsNone o) (revocable_ratio tax (row_at guest)) (revocable_ratios tax (rows_of guests)) none))
  where
    at : (guest : Option GuestRecord) → IsNone (revocable_ratio tax (row_at guest)) → IfSome guest IsAtMinimum
    at None nothing = tt
    at (Some g) nothing = not-above tax (row_of g) nothing

-- ---- a list of revocations

-- what is done to a guest takes a page of its target, and may take frames
Revokes : (GuestRecord → GuestRecord) → Type 0
Revokes change = (g : GuestRecord) → bare (row_of (change g)) ≡ bare (revoked_row (row_of g))

row-same : (rows others : List Row) (k : ℕ) (row other : Row) → SameButHeld rows others → k < length rows → k < length others
    → get_or rows k row ≡ row → get_or others k other ≡ other → bare row ≡ bare other
unfolding SameButHeld
row-same rows others k row other same within there e e' =
    ap bare (sym e) ∙ (sym (get_or-map bare rows k row idle_row within)
    ∙ (ap (λ (l : List Row). get_or l k idle_row) same ∙ (get_or-map bare others k other idle_row there ∙ ap bare e')))

-- the rows after a revocation are those of the guests after it
step-same : (change : GuestRecord → GuestRecord) → Revokes change → (rows : List Row) (guests : Guests) (k : ℕ) (g : GuestRecord)
    → SameButHeld rows (rows_of guests) → guest_in guests k ≡ Some g
    → SameButHeld (change_at revoked_row rows k) (rows_of (guest_changed change guests k))
unfolding SameButHeld Revokes
step-same change revokes rows guests k g same here =
    ⊎_elim
    (λ x. ⊎_elim
    (λ y.
    let is_g : x.0 ≡ Some g = sym (ap running x.2) ∙ here in
    let wide = length-map guests row_at in
    let bare_row = row-same rows (rows_of guests) k y.0 (row_at x.0) same y.1 (omega (arith, x.1, wide)) y.3
    (get_or-map row_at guests k x.0 (row_at x.0) x.1 ∙ ap row_at x.3) in
    let entry : bare (revoked_row y.0) ≡ bare (row_at (option_map change (guest_in guests k))) =
    ap revoked_row bare_row
    ∙ (ap (λ (o : Option GuestRecord). revoked_row (bare (row_at o))) is_g
    ∙ (sym (revokes g)
    ∙ sym (ap (λ (o : Option GuestRecord). bare (row_at (option_map change o))) here))) in
    ap (λ (o : Option Row). map bare (option_map_or (λ row. slice_set rows k (revoked_row row)) o rows)) y.2
    ∙ (map-set bare rows k (revoked_row y.0)
    ∙ (ap (λ (l : List Row). slice_set l k (bare (revoked_row y.0))) same
    ∙ (ap (λ (row : Row). slice_set (map bare (rows_of guests)) k row) entry
    ∙ (sym (map-set bare (rows_of guests) k (row_at (option_map change (guest_in guests k))))
    ∙ ap (map bare) (sym (map-set row_at guests k (option_map change (guest_in guests k)))))))))
    (λ past.
    let wide = length-map guests row_at in
    let rows_wide = length-map rows bare in
    let others_wide = length-map (rows_of guests) bare in
    let counted = ap length same in
    absurd (omega (arith, past.0, x.1, wide, rows_wide, others_wide, counted)))
    (slice_get_cases rows k).1)
    (λ past. absurd (none-some g (sym (ap running past.1) ∙ here)))
    (slice_get_cases guests k).1

module _ (tax : Tax) (change : GuestRecord → GuestRecord) (take : PoolView → ℕ → PoolView)
    (revokes : Revokes change) (takes : (pool : PoolView) (k : ℕ) → (take pool k).guests ≡ guest_changed change pool.guests k) where
  fair-moves : (rows : List Row) (pool : PoolView) (moves : List ℕ) → SameButHeld rows (rows_of pool.guests)
      → EachMove (λ before position. IsLeast (revocable_ratios tax (rows_after rows before)) position) moves
      → TakesFromCheapest tax take pool moves
  fair-moves rows pool [] same each = tt
  fair-moves rows pool (position ∷ moves) same each =
      let first = cheapest-least tax pool.guests position
      (subst (λ offers. IsLeast offers position) (ratios-same tax rows (rows_of pool.guests) same) (each 0 (omega arith))) in (
        first,
        fair-moves (change_at revoked_row rows position) (take pool position) moves
            (subst (λ (guests : Guests). SameButHeld (change_at revoked_row rows position) (rows_of guests)) (sym (takes pool position))
            (step-same change revokes rows pool.guests position first.guest same first.here))
            (λ i within. each (suc i) (omega (arith, within))),
      )

  fair-list : (wanted : ℕ) (pool : PoolView) (moves : List ℕ) → IsRevocationList tax wanted (rows_of pool.guests) moves
      → TakesFromCheapest tax take pool moves
  unfolding SameButHeld
  fair-list wanted pool moves list = fair-moves (rows_of pool.guests) pool moves refl list.each_least

  -- the rows after a list are those of the guests after it
  rows-moved : (rows : List Row) (pool : PoolView) (moves : List ℕ) → SameButHeld rows (rows_of pool.guests) → TakesFromCheapest tax take pool moves
      → SameButHeld (rows_after rows moves) (rows_of (fold take pool moves).guests)
  rows-moved rows pool [] same fair = same
  rows-moved rows pool (position ∷ moves) same fair =
      let first = fair.0 in
      rows-moved (change_at revoked_row rows position) (take pool position) moves
      (subst (λ (guests : Guests). SameButHeld (change_at revoked_row rows position) (rows_of guests)) (sym (takes pool position))
      (step-same change revokes rows pool.guests position first.guest same first.here))
      fair.1

  -- where a list is shorter than is wanted, each guest is at its minimum after it
  none-left : (wanted : ℕ) (pool : PoolView) (moves : List ℕ) → IsRevocationList tax wanted (rows_of pool.guests) moves
      → length moves < wanted → EachRunning IsAtMinimum (fold take pool moves).guests
  unfolding SameButHeld
  none-left wanted pool moves list fewer =
      let after = (fold take pool moves).guests in
      let same = rows-moved (rows_of pool.guests) pool moves refl (fair-list wanted pool moves list) in
      at-minimums tax after
      (subst (λ (offers : List (Option Ratio)). All IsNone offers) (ratios-same tax (rows_after (rows_of pool.guests) moves) (rows_of after) same) (list.no_fewer fewer))

-- each revocation of a boundary takes from the cheapest guest
pub fair-boundary : (tax : Tax) (wanted : ℕ) (pool : PoolView) (moves : List ℕ) → IsRevocationList tax wanted (rows_of pool.guests) moves
    → TakesFromCheapest tax (changed revoked) pool moves
unfolding Revokes
fair-boundary tax = fair-list tax revoked (changed revoked) (λ g. refl) (λ pool k. refl)

pub none-left-boundary : (tax : Tax) (wanted : ℕ) (pool : PoolView) (moves : List ℕ) → IsRevocationList tax wanted (rows_of pool.guests) moves
    → length moves < wanted → EachRunning IsAtMinimum (fold (changed revoked) pool moves).guests
unfolding Revokes
none-left-boundary tax = none-left tax revoked (changed revoked) (λ g. refl) (λ pool k. refl)

twice-changed : (f h : GuestRecord → GuestRecord) (guests : Guests) (k : ℕ)
    → guest_changed f (guest_changed h guests k) k ≡ guest_changed (λ g. f (h g)) guests k
twice-changed f h [] k = refl
twice-changed f h (None ∷ guests) zero = refl
twice-changed f h (Some g ∷ guests) zero = refl
twice-changed f h (guest ∷ guests) (suc k) = ap (λ rest. guest ∷ rest) (twice-changed f h guests k)

pub guests-taken : (pool : PoolView) (k : ℕ) → (taken_at pool k).guests ≡ guest_changed (λ g. released 1 (revoked g)) pool.guests k
guests-taken pool k = twice-changed (released 1) revoked pool.guests k

-- so does each that a command needs
pub fair-command : (tax : Tax) (wanted : ℕ) (pool : PoolView) (moves : List ℕ) → IsRevocationList tax wanted (rows_of pool.guests) moves
    → TakesFromCheapest tax taken_at pool moves
unfolding Revokes
fair-command tax = fair-list tax (λ g. released 1 (revoked g)) taken_at (λ g. frame-bare (revoked g) (has_spare (revoked g).memory)) guests-taken

-- ---- shares

abbrev pub HasShares : GuestRecord → Type 0
HasShares g = 1 ≤ g.allotment.shares

some-shares : (guest : Option GuestRecord) → IfSome guest IsGood → IfSome guest HasShares
some-shares None good = tt
some-shares (Some g) good = good.sound.allotment.some_shares

pub each-shares : (guests : Guests) → EachRunning IsGood guests → EachRunning HasShares guests
each-shares guests good k d within = some-shares (slice_index_or guests k d) (good k d within)

row-shares : (guest : Option GuestRecord) → IfSome guest HasShares → 1 ≤ (row_at guest).shares
row-shares None has = omega arith
row-shares (Some g) has = has

-- all rows have shares, as the law of the one revocation list asks
pub have-shares : (guests : Guests) → EachRunning HasShares guests → HaveShares (rows_of guests)
have-shares [] has = All-nil (λ row. 1 ≤ row.shares)
have-shares (guest ∷ guests) has =
    All-cons (λ row. 1 ≤ row.shares) (row_at guest) (rows_of guests)
    (row-shares guest (All-head (λ o. IfSome o HasShares) guest guests has))
    (have-shares guests (All-tail (λ o. IfSome o HasShares) guest guests has))

pub rows-shares : (guests : Guests) → EachRunning IsGood guests → HaveShares (rows_of guests)
rows-shares guests has = have-shares guests (each-shares guests has)
