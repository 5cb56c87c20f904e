-- Where each word, line, curve and mark of a drawing stands. Its charts are below each other, each with its title above it, its levels
-- and what they count on its left, and its ticks and its legend below it.
use Rattle.std.specs.Prelude.{ℕ, suc, ◌+◌, ◌-◌, ◌*◌, ◌/◌, ◌%◌, ◌==◌, ◌&&◌, List, [], ◌∷◌, ◌++◌, Bool, Option, Some, None, if◌then◌else◌, length, map, max, nat_le, nat_lt, slice_get, unwrap_or}
use Rattle.std.specs.Fmt.{decimal}
use Rattle.std.specs.Int.{div_ceil}
use Rattle.std.specs.List.{flat_map, range_with_len}
use Rattle.vm_drawing.specs.declared.area.Area.{Area}
use Rattle.vm_drawing.specs.declared.scale.Axis.{Axis}
use Rattle.vm_drawing.specs.declared.scale.Scale.{Scale}
use Rattle.vm_drawing.specs.declared.spread.Spread.{Spread}
use Rattle.vm_drawing.specs.declared.texts.Style.TheVariants.{Heading, Plain, Title, End, Middle}
use Rattle.vm_drawing.specs.Drawing.{Chart, Curve, Drawing, place_at, shown, value_at}
use Rattle.vm_drawing.specs.Values.{greatest}
use Rattle.vm_drawing.specs.Scale.{scale_of_words, scale_to, tick_step, x_of, y_of}
use Rattle.vm_drawing.specs.Shapes.{Shape, Open, Close, Words, Upright, Level, Tick, Band, Path, Mark, Entry, document}

-- ---- places in a chart

abbrev pub across : Area → ℕ → ℕ
across area place = 90 + x_of area.axis place

abbrev pub down : Area → ℕ → ℕ
down area value = area.base - y_of area.scale value

-- ---- levels and ticks

-- a line across the chart, and its word, or its value
abbrev pub level_at : Area → List (List ℕ) → ℕ → List Shape
level_at area words value =
    Level (down area value) ∷ Words End 82 (down area value + 4) (unwrap_or (slice_get words value) (decimal value)) ∷ []

-- one at each step
abbrev pub levels : Area → List (List ℕ) → List Shape
levels area words = flat_map (λ part. level_at area words (part * area.scale.step)) (range_with_len 0 (area.scale.parts + 1))

-- whether a place is on the axis, and may have a tick
abbrev pub is_on : Axis → ℕ → Bool
is_on axis place = nat_le axis.first place && (if axis.is_open then nat_lt place axis.last else nat_le place axis.last)

abbrev pub tick_at : Area → ℕ → List Shape
tick_at area place =
    if is_on area.axis place
    then Tick (across area place) area.base ∷ Words Middle (across area place) (area.base + 20) (decimal place) ∷ [] else []

-- at each multiple of the step that is on the axis, eleven at most
abbrev pub ticks : Area → List Shape
ticks area =
    flat_map (λ k. tick_at area ((area.axis.first / tick_step area.axis + k) * tick_step area.axis)) (range_with_len 0 12)

-- ---- marks

-- six or so along a curve, and not where the curves before and behind it have theirs
abbrev pub stride : ℕ → ℕ
stride count = max 1 (count / 6)

abbrev pub is_marked : (count i number : ℕ) → Bool
is_marked count i number = i % stride count == number % stride count

-- the middle of a level value, or the place of another
abbrev pub place_between : Option (List ℕ) → (left right : ℕ) → ℕ
place_between None left right = (left + right) / 2
place_between (Some places) left right = left

abbrev pub mark_place : Area → Curve → ℕ → ℕ
mark_place area curve i =
    place_between curve.places (across area (place_at area.axis curve i)) (across area (place_at area.axis curve (i + 1)))

abbrev pub mark_if : Area → Curve → ℕ → Option ℕ → List Shape
mark_if area curve i None = []
mark_if area curve i (Some value) = Mark (mark_place area curve i) (down area value) curve.number ∷ []

abbrev pub mark_at : Area → Curve → ℕ → List Shape
mark_at area curve i = if is_marked (length curve.values) i curve.number then mark_if area curve i (value_at curve.values i) else []

abbrev pub marks_along : Area → Curve → List Shape
marks_along area curve = flat_map (mark_at area curve) (range_with_len 0 (length curve.values))

-- ---- the legend

-- the length of the longest name
abbrev pub longest : List Curve → ℕ
longest [] = 0
longest (curve ∷ curves) = max (length curve.name) (longest curves)

-- as many columns as the names have room in, of which no character is wider than 13 pixels
abbrev pub columns_for : List Curve → ℕ
columns_for curves = max 1 (880 / (84 + 13 * longest curves))

abbrev pub entry_in : (base columns slot : ℕ) → Curve → Shape
entry_in base columns slot curve =
    Entry (90 + slot % columns * (880 / columns)) (base + 62 + 24 * (slot / columns)) curve.number curve.name

abbrev pub entries_from : (base columns slot : ℕ) → List Curve → List Shape
entries_from base columns slot [] = []
entries_from base columns slot (curve ∷ curves) = entry_in base columns slot curve ∷ entries_from base columns (suc slot) curves

abbrev pub legend : ℕ → List Curve → List Shape
legend base curves = entries_from base (columns_for curves) 0 curves

abbrev pub lines_for : List Curve → ℕ
lines_for curves = div_ceil (length curves) (columns_for curves)

-- ---- a chart

-- the greatest value of all curves and their bands
abbrev pub greatest_in : List Curve → ℕ
greatest_in [] = 0
greatest_in (curve ∷ curves) = max (greatest (shown curve)) (greatest_in curves)

abbrev pub scale_of : Chart → Scale
scale_of c = if length c.words == 0 then scale_to (greatest_in c.curves) else scale_of_words (length c.words)

-- the chart whose room begins so far down
abbrev pub area_of : Axis → ℕ → Chart → Area
area_of axis y c = record { base = y + 34 + (scale_of c).height; scale = scale_of c; axis = axis }

-- how many pixels a chart takes, with its title and its legend
abbrev pub room_of : Chart → ℕ
room_of c = 34 + (scale_of c).height + 54 + (if c.is_keyed then 24 * lines_for c.curves else 0)

abbrev pub band_if : Area → Curve → Option (List (Option Spread)) → List Shape
band_if area curve None = []
band_if area curve (Some spreads) = Band area curve spreads ∷ []

abbrev pub band_of : Area → Curve → List Shape
band_of area curve = band_if area curve curve.band

-- bands come before all curves, so that none covers them
abbrev pub bands : Area → List Curve → List Shape
bands area curves = flat_map (band_of area) curves

-- marks come behind all curves, so that none covers them
abbrev pub keys : Area → Chart → List Shape
keys area c = if c.is_keyed then flat_map (marks_along area) c.curves ++ legend area.base c.curves else []

-- what stands on the left of a chart, and below it
abbrev pub axes : List ℕ → Area → Chart → List Shape
axes along area c =
    levels area c.words ++ (ticks area ++ (Words Middle 530 (area.base + 38) along
    ∷ Upright (area.base - area.scale.height / 2) c.unit ∷ []))

abbrev pub chart_shapes : List ℕ → Area → Chart → List Shape
chart_shapes along area c =
    Open c.title ∷ Words Title 90 (area.base - (area.scale.height + 14)) c.title
    ∷ (axes along area c ++ (bands area c.curves ++ (map (Path area) c.curves ++ (keys area c ++ Close ∷ []))))

-- ---- the picture

-- each chart below the one before
abbrev pub charts_from : List ℕ → Axis → ℕ → List Chart → List Shape
charts_from along axis y [] = []
charts_from along axis y (c ∷ cs) = chart_shapes along (area_of axis y c) c ++ charts_from along axis (y + room_of c) cs

-- how far down the last one ends
abbrev pub end_of : ℕ → List Chart → ℕ
end_of y [] = y
end_of y (c ∷ cs) = end_of (y + room_of c) cs

unfoldable pub picture_of : Drawing → List Shape
picture_of d =
    Words Heading 90 34 d.title ∷ Words Plain 90 58 d.note ∷ charts_from d.along d.axis 70 d.charts

abbrev pub height_of : Drawing → ℕ
height_of d = end_of 70 d.charts

-- the text of a drawing
abbrev pub svg_of : Drawing → List ℕ
svg_of d = document d.title (height_of d) (picture_of d)
