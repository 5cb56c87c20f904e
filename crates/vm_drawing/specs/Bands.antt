-- The band behind a curve, from its least to its greatest values, as the path of an SVG (Scalable Vector Graphics 1.1, section 8.3).
-- It begins at the lower left corner of its chart, and goes up.
use Rattle.std.specs.Prelude.{ℕ, zero, suc, ◌+◌, ◌-◌, ◌==◌, List, [], ◌++◌, Option, Some, None, codes, if◌then◌else◌, length, slice_get, unwrap_or}
use Rattle.std.specs.List.{flat_map, range_with_len}
use Rattle.vm_drawing.specs.declared.area.Area.{Area}
use Rattle.vm_drawing.specs.declared.spread.Spread.{Spread}
use Rattle.vm_drawing.specs.Curves.{pair}
use Rattle.vm_drawing.specs.Drawing.{Curve, place_at}
use Rattle.vm_drawing.specs.Scale.{x_of, y_of}

abbrev pub spread_at : List (Option Spread) → ℕ → Option Spread
spread_at spreads i = unwrap_or (slice_get spreads i) None

abbrev pub spread_before : List (Option Spread) → ℕ → Option Spread
spread_before spreads i = if i == 0 then None else spread_at spreads (i - 1)

-- a value at a place of the curve
abbrev pub corner : Area → Curve → (i value : ℕ) → List ℕ
corner area curve i value = pair (x_of area.axis (place_at area.axis curve i)) (y_of area.scale value)

-- ---- back along the least values

abbrev pub step_back : Option Spread → (corner_of : ℕ → List ℕ) → (rest : List ℕ) → List ℕ
step_back None corner_of rest = []
step_back (Some spread) corner_of rest = codes "L" ++ (corner_of spread.least ++ rest)

-- from the place before this one to the gap before it, or to the first place
unfoldable pub back_text : Area → Curve → List (Option Spread) → ℕ → List ℕ
back_text area curve spreads zero = []
back_text area curve spreads (suc i) =
    step_back (spread_at spreads i) (corner area curve i) (back_text area curve spreads i)

-- ---- along the greatest values

-- the pen is set down behind a gap, and else draws a line
abbrev pub pen_text : (before : Option Spread) → List ℕ
pen_text None = codes "M"
pen_text (Some last) = codes "L"

-- where a gap is, or the end, the band turns back and is closed
abbrev pub turn_text : Area → Curve → List (Option Spread) → ℕ → (here : Option Spread) → List ℕ
turn_text area curve spreads i None = back_text area curve spreads i ++ codes "Z"
turn_text area curve spreads i (Some spread) = []

abbrev pub edge_text : Area → Curve → List (Option Spread) → ℕ → (here : Option Spread) → List ℕ
edge_text area curve spreads i None = []
edge_text area curve spreads i (Some spread) =
    pen_text (spread_before spreads i) ++ (corner area curve i spread.greatest
    ++ turn_text area curve spreads (i + 1) (spread_at spreads (i + 1)))

-- ---- the path

abbrev pub edge_at : Area → Curve → List (Option Spread) → ℕ → List ℕ
edge_at area curve spreads i = edge_text area curve spreads i (spread_at spreads i)

-- a closed line for each stretch without a gap, in order
unfoldable pub outline_text : Area → Curve → List (Option Spread) → List ℕ
outline_text area curve spreads = flat_map (edge_at area curve spreads) (range_with_len 0 (length spreads))
