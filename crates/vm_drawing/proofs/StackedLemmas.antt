-- Each shape of a chart stands in its room.
use Rattle.std.proofs.Common.{◌≡◌, ℕ, zero, suc, ◌+◌, ◌-◌, ◌*◌, ◌/◌, ◌%◌, ◌==◌, ◌<◌, ◌≤◌, List, ◌∷◌, [], ◌++◌, Bool, true, false, Option, Some, None, length, map, max, min, IfSome, if◌then◌else◌, sym, subst, arith, unwrap_or}
use Rattle.std.specs.List.{flat_map, range_with_len}
use Rattle.std.specs.Int.{div_ceil}
use Rattle.std.proofs.Math.Nat.{le-max_left, le-max_right}
use native.Mathlib.Nat.{div-add-mod', div-le_of_le-mul, div-lt_iff_lt-mul, mod-lt, mul-le-mul_left, mul-le-mul_right, mul_comm}
use Rattle.vm_drawing.specs.declared.scale.Axis.{Axis}
use Rattle.vm_drawing.specs.declared.scale.Scale.{Scale}
use Rattle.vm_drawing.specs.declared.spread.Spread.{Spread}
use Rattle.vm_drawing.specs.Drawing.{Chart, Curve, ends_among, ends_of, shown, value_at}
use Rattle.vm_drawing.specs.Values.{greatest}
use Rattle.vm_drawing.specs.Scale.{round_from, round_up, round_within, scale_of_words, scale_to, step_for, tick_step, top_of, y_of}
use Rattle.vm_drawing.specs.Picture.{area_of, axes, band_if, band_of, bands, chart_shapes, columns_for, entries_from, greatest_in, is_marked, is_on, keys, legend, level_at, levels, lines_for, longest, mark_at, mark_if, marks_along, room_of, scale_of, tick_at, ticks}
use Rattle.vm_drawing.specs.Shapes.{Path}
use Rattle.vm_drawing.specs.Stacked.{AreStacked, Each, HasWords, IsBetween, IsInside}

-- ---- each

pub each-append : {A : Type 0} (P : A → Type 0) (xs ys : List A) → Each P xs → Each P ys → Each P (xs ++ ys)
each-append P [] ys a b = b
each-append P (x ∷ xs) ys a b = (a.0, each-append P xs ys a.1 b)

pub each-range : {A : Type 0} (P : A → Type 0) (f : ℕ → List A) (from n : ℕ) → ((k : ℕ) → from ≤ k → k < from + n → Each P (f k))
    → Each P (flat_map f (range_with_len from n))
each-range P f from zero all = tt
each-range P f from (suc n) all =
    each-append P (f from) (flat_map f (range_with_len (from + 1) n)) (all from (omega arith) (omega arith))
    (each-range P f (from + 1) n (λ k low high. all k (omega (arith, low)) (omega (arith, high))))

pub each-map : {A B : Type 0} (P : B → Type 0) (f : A → B) (xs : List A) → Each (λ x. P (f x)) xs → Each P (map f xs)
each-map P f [] all = tt
each-map P f (x ∷ xs) all = (all.0, each-map P f xs all.1)

pub each-flat_map : {A B : Type 0} (P : B → Type 0) (f : A → List B) (xs : List A) → Each (λ x. Each P (f x)) xs → Each P (flat_map f xs)
each-flat_map P f [] all = tt
each-flat_map P f (x ∷ xs) all = each-append P (f x) (flat_map f xs) all.0 (each-flat_map P f xs all.1)

each-weaken : {A : Type 0} (P Q : A → Type 0) (xs : List A) → ((x : A) → P x → Q x) → Each P xs → Each Q xs
each-weaken P Q [] gives all = tt
each-weaken P Q (x ∷ xs) gives all = (gives x all.0, each-weaken P Q xs gives all.1)

-- ---- rounded up

ceil-of : (q r c : ℕ) → r < c → q * c + r ≤ (q + min 1 r) * c
ceil-of q zero c less = grind (arith, less)
ceil-of q (suc r) c less = grind (arith, less)

-- so many steps reach it
ceil-covers : (n c : ℕ) → 0 < c → n ≤ div_ceil n c * c
ceil-covers n c some =
    omega (arith, div-add-mod' n c, ceil-of (n / c) (n % c) c (mod-lt n some))

-- ---- values

-- a value up to the upper edge is no higher than its chart
inside : (s : Scale) (v : ℕ) → v ≤ top_of s → y_of s v ≤ s.height
inside s v small =
    let reaches : v ≤ max 1 (top_of s) = omega (arith, small, le-max_right 1 (top_of s)) in
    div-le_of_le-mul (max 1 (top_of s)) (mul-le-mul_right s.height reaches)

within-some : (power least : ℕ) → 0 < power → 0 < round_within power least
within-some power least some = grind (arith, some)

round-some : (n power least : ℕ) → 0 < power → 0 < round_from n power least
unfolding round_from
round-some zero power least some = some
round-some (suc n) power least some =
    grind (arith, some, within-some power least some, round-some n (10 * power) least (omega (arith, some)))

step-some : (parts value : ℕ) → 0 < step_for parts value
unfolding round_up
step-some parts value = round-some 19 1 (div_ceil value parts) (omega arith)

-- a scale of numbers reaches the greatest of them
numbers-reach : (n : ℕ) → n ≤ top_of (scale_to n)
numbers-reach n =
    let step = step_for 5 n in
    let covers = ceil-covers n step (step-some 5 n) in
    let more = mul-le-mul_left step (le-max_right 1 (div_ceil n step)) in
    omega (arith, covers, more, mul_comm (div_ceil n step) step)

-- ---- each value of a chart is inside

first-below : (value : Option ℕ) (rest : ℕ) → IfSome value (λ v. v ≤ max (unwrap_or value 0) rest)
first-below None rest = tt
first-below (Some v) rest = le-max_left v rest

later-below : (value : Option ℕ) (first rest : ℕ) → IfSome value (λ v. v ≤ rest) → IfSome value (λ v. v ≤ max first rest)
later-below None first rest small = tt
later-below (Some v) first rest small = omega (arith, small, le-max_right first rest)

below-greatest : (values : List (Option ℕ)) → Each (λ value. IfSome value (λ v. v ≤ greatest values)) values
below-greatest [] = tt
below-greatest (value ∷ values) = (
  first-below value (greatest values),
  each-weaken _ _ values (λ x small. later-below x (unwrap_or value 0) (greatest values) small) (below-greatest values),
)

-- no value of these curves and their bands is above a top
abbrev AreBelow : ℕ → List Curve → Type 0
AreBelow top curves = Each (λ curve. Each (λ value. IfSome value (λ v. v ≤ top)) (shown curve)) curves

raised : (a b : ℕ) (value : Option ℕ) → a ≤ b → IfSome value (λ v. v ≤ a) → IfSome value (λ v. v ≤ b)
raised a b None less small = tt
raised a b (Some v) less small = omega (arith, less, small)

all-raised : (a b : ℕ) (curves : List Curve) → a ≤ b → AreBelow a curves → AreBelow b curves
all-raised a b curves less all =
    each-weaken _ _ curves (λ curve below. each-weaken _ _ (shown curve) (λ value small. raised a b value less small) below) all

all-below-greatest : (curves : List Curve) → AreBelow (greatest_in curves) curves
all-below-greatest [] = tt
all-below-greatest (curve ∷ curves) = (
  each-weaken _ _ (shown curve)
      (λ value small. raised (greatest (shown curve)) _ value (le-max_left (greatest (shown curve)) (greatest_in curves)) small)
      (below-greatest (shown curve)),
  all-raised (greatest_in curves) _ curves (le-max_right (greatest (shown curve)) (greatest_in curves)) (all-below-greatest curves),
)

words-below : (n : ℕ) (value : Option ℕ) → IfSome value (λ v. v < n) → IfSome value (λ v. v ≤ top_of (scale_of_words n))
words-below n None small = tt
words-below n (Some v) small = omega (arith, small, le-max_right 1 (n - 1))

below-top-of : (words : List (List ℕ)) (curves : List Curve)
    → (0 < length words → Each (λ curve. Each (λ value. IfSome value (λ v. v < length words)) (shown curve)) curves)
    → AreBelow (top_of (if length words == 0 then scale_to (greatest_in curves) else scale_of_words (length words))) curves
below-top-of [] curves has = all-raised (greatest_in curves) _ curves (numbers-reach (greatest_in curves)) (all-below-greatest curves)
below-top-of (word ∷ words) curves has =
    let n = length (word ∷ words) in
    let some : (n == 0) ≡ false = grind arith in
    let below : AreBelow (top_of (scale_of_words n)) curves =
    each-weaken _ _ curves (λ curve all. each-weaken _ _ (shown curve) (λ value small. words-below n value small) all) (has (omega arith)) in
    subst (λ (b : Bool). AreBelow (top_of (if b then scale_to (greatest_in curves) else scale_of_words n)) curves) (sym some) below

-- in each chart no value is above the upper edge
below-top : (c : Chart) → HasWords c → AreBelow (top_of (scale_of c)) c.curves
below-top c words = below-top-of c.words c.curves words

value-below : (values : List (Option ℕ)) (top i : ℕ) → Each (λ value. IfSome value (λ v. v ≤ top)) values
    → IfSome (value_at values i) (λ v. v ≤ top)
value-below [] top i all = tt
value-below (value ∷ values) top zero all = all.0
value-below (value ∷ values) top (suc i) all = value-below values top i all.1

-- of what a curve shows the first are those of its band, and the last its own values
each-first : {A : Type 0} (P : A → Type 0) (xs ys : List A) → Each P (xs ++ ys) → Each P xs
each-first P [] ys all = tt
each-first P (x ∷ xs) ys all = (all.0, each-first P xs ys all.1)

each-last : {A : Type 0} (P : A → Type 0) (xs ys : List A) → Each P (xs ++ ys) → Each P ys
each-last P [] ys all = all
each-last P (x ∷ xs) ys all = each-last P xs ys all.1

abbrev IsBelow : ℕ → Option ℕ → Type 0
IsBelow top value = IfSome value (λ v. v ≤ top)

values-of : (top : ℕ) (curve : Curve) → Each (IsBelow top) (shown curve) → Each (IsBelow top) curve.values
values-of top curve all = each-last (IsBelow top) (ends_of curve.band) curve.values all

ends-of : (top : ℕ) (curve : Curve) → Each (IsBelow top) (shown curve) → Each (IsBelow top) (ends_of curve.band)
ends-of top curve all = each-first (IsBelow top) (ends_of curve.band) curve.values all

-- ---- the shapes of a chart

each-if : {A : Type 0} (P : A → Type 0) (test : Bool) (xs : List A) → Each P xs → Each P (if test then xs else [])
each-if P true xs all = all
each-if P false xs all = tt

columns-some : (curves : List Curve) → 0 < columns_for curves
columns-some curves = omega (arith, le-max_left 1 (880 / (84 + 13 * longest curves)))

line-below : (slot n columns : ℕ) → 0 < columns → slot < n → slot / columns < div_ceil n columns
line-below slot n columns some less =
    (div-lt_iff_lt-mul {k = columns} {x = slot} {y = div_ceil n columns} some).1 (omega (arith, less, ceil-covers n columns some))

part-below : (part parts step : ℕ) → part < 0 + (parts + 1) → part * step ≤ step * parts
part-below part parts step less =
    let most : part * step ≤ parts * step = mul-le-mul_right step (omega (arith, less)) in
    omega (arith, most, mul_comm parts step)

module _ (axis : Axis) (y to : ℕ) (c : Chart) (below : AreBelow (top_of (scale_of c)) c.curves)
    (room : y + 34 + (scale_of c).height + 54 ≤ to) where
  level-between : (value : ℕ) → value ≤ top_of (scale_of c) → Each (IsBetween y to) (level_at (area_of axis y c) c.words value)
  level-between value small =
      let high : y_of (scale_of c) value ≤ (scale_of c).height = inside (scale_of c) value small in
      ((omega (arith, high), omega (arith, room)), ((omega (arith, high), omega (arith, room)), tt))

  levels-between : Each (IsBetween y to) (levels (area_of axis y c) c.words)
  levels-between =
      each-range (IsBetween y to) (λ part. level_at (area_of axis y c) c.words (part * (scale_of c).step)) 0 ((scale_of c).parts + 1)
      (λ part low high. level-between (part * (scale_of c).step) (part-below part (scale_of c).parts (scale_of c).step high))

  tick-between : (place : ℕ) → Each (IsBetween y to) (tick_at (area_of axis y c) place)
  tick-between place =
      each-if (IsBetween y to) (is_on axis place) _
      ((omega arith, omega (arith, room)), ((omega arith, omega (arith, room)), tt))

  axes-between : (along : List ℕ) → Each (IsBetween y to) (axes along (area_of axis y c) c)
  axes-between along =
      each-append (IsBetween y to) (levels (area_of axis y c) c.words) _ levels-between
      (each-append (IsBetween y to) (ticks (area_of axis y c)) _
      (each-range (IsBetween y to) (λ k. tick_at (area_of axis y c) ((axis.first / tick_step axis + k) * tick_step axis)) 0 12
      (λ k low high. tick-between ((axis.first / tick_step axis + k) * tick_step axis)))
      ((omega arith, omega (arith, room)), ((omega arith, omega (arith, room)), tt)))

  value-inside : (value : Option ℕ) → IfSome value (λ v. v ≤ top_of (scale_of c)) → IsInside (area_of axis y c) value
  value-inside None small = tt
  value-inside (Some v) small = inside (scale_of c) v small

  band-between : (curve : Curve) (band : Option (List (Option Spread))) → Each (IsBelow (top_of (scale_of c))) (ends_of band)
      → Each (IsBetween y to) (band_if (area_of axis y c) curve band)
  band-between curve None all = tt
  band-between curve (Some spreads) all =
      ((omega arith, omega (arith, room), each-weaken _ _ (ends_among spreads) value-inside all), tt)

  bands-between : Each (IsBetween y to) (bands (area_of axis y c) c.curves)
  bands-between =
      each-flat_map (IsBetween y to) (band_of (area_of axis y c)) c.curves
      (each-weaken _ _ c.curves (λ curve all. band-between curve curve.band (ends-of (top_of (scale_of c)) curve all)) below)

  paths-between : Each (IsBetween y to) (map (Path (area_of axis y c)) c.curves)
  paths-between =
      each-map (IsBetween y to) (Path (area_of axis y c)) c.curves
      (each-weaken _ _ c.curves (λ curve all. (omega arith, omega (arith, room), each-weaken _ _ curve.values value-inside (values-of (top_of (scale_of c)) curve all))) below)

  mark-between : (curve : Curve) (i : ℕ) (value : Option ℕ) → IfSome value (λ v. v ≤ top_of (scale_of c))
      → Each (IsBetween y to) (mark_if (area_of axis y c) curve i value)
  mark-between curve i None small = tt
  mark-between curve i (Some v) small =
      let high : y_of (scale_of c) v ≤ (scale_of c).height = inside (scale_of c) v small in
      ((omega (arith, high), omega (arith, room)), tt)

  marks-between : Each (IsBetween y to) (flat_map (marks_along (area_of axis y c)) c.curves)
  marks-between =
      each-flat_map (IsBetween y to) (marks_along (area_of axis y c)) c.curves
      (each-weaken _ _ c.curves (λ curve all.
      each-range (IsBetween y to) (mark_at (area_of axis y c) curve) 0 (length curve.values)
      (λ i low high. each-if (IsBetween y to) (is_marked (length curve.values) i curve.number) _
      (mark-between curve i (value_at curve.values i) (value-below curve.values (top_of (scale_of c)) i (values-of (top_of (scale_of c)) curve all))))) below)

  entries-between : (n columns slot : ℕ) (curves : List Curve) → 0 < columns → slot + length curves ≤ n
      → y + 34 + (scale_of c).height + 54 + 24 * div_ceil n columns ≤ to
      → Each (IsBetween y to) (entries_from (area_of axis y c).base columns slot curves)
  entries-between n columns slot [] some few enough = tt
  entries-between n columns slot (curve ∷ curves) some few enough =
      let line = line-below slot n columns some (omega (arith, few)) in (
        (omega arith, omega (arith, line, enough)),
        entries-between n columns (suc slot) curves some (omega (arith, few)) enough,
      )

  keys-between : (keyed : Bool) → y + 34 + (scale_of c).height + 54 + (if keyed then 24 * lines_for c.curves else 0) ≤ to
      → Each (IsBetween y to) (if keyed then flat_map (marks_along (area_of axis y c)) c.curves ++ legend (area_of axis y c).base c.curves else [])
  keys-between false enough = tt
  keys-between true enough =
      each-append (IsBetween y to) (flat_map (marks_along (area_of axis y c)) c.curves) _ marks-between
      (entries-between (length c.curves) (columns_for c.curves) 0 c.curves (columns-some c.curves) (omega arith) enough)

  chart-between : (along : List ℕ)
      → y + 34 + (scale_of c).height + 54 + (if c.is_keyed then 24 * lines_for c.curves else 0) ≤ to
      → Each (IsBetween y to) (chart_shapes along (area_of axis y c) c)
  chart-between along enough = (
    tt,
    (
      (omega arith, omega (arith, room)),
      each-append (IsBetween y to) (axes along (area_of axis y c) c) _ (axes-between along)
          (each-append (IsBetween y to) (bands (area_of axis y c) c.curves) _ bands-between
          (each-append (IsBetween y to) (map (Path (area_of axis y c)) c.curves) _ paths-between
          (each-append (IsBetween y to) (keys (area_of axis y c) c) _ (keys-between c.is_keyed enough) (tt, tt)))),
    ),
  )

-- ---- all charts

pub stacked : (along : List ℕ) (axis : Axis) (y : ℕ) (charts : List Chart) → Each HasWords charts → AreStacked along axis y charts
stacked along axis y [] words = tt
stacked along axis y (c ∷ cs) words = (
  chart-between axis y (y + room_of c) c (below-top c words.0) (omega arith) along (omega arith),
  stacked along axis (y + room_of c) cs words.1,
)
