-- A curve, as the path of an SVG (Scalable Vector Graphics 1.1, section 8.3). It begins at the lower left corner of its chart, and goes up.
use Rattle.std.specs.Prelude.{ℕ, ◌+◌, ◌-◌, ◌==◌, List, [], ◌++◌, Bool, false, Option, Some, None, codes, if◌then◌else◌, length}
use Rattle.std.specs.Fmt.{decimal}
use Rattle.std.specs.List.{flat_map, range_with_len}
use Rattle.vm_drawing.specs.declared.area.Area.{Area}
use Rattle.vm_drawing.specs.Drawing.{Curve, place_among, value_at}
use Rattle.vm_drawing.specs.Scale.{x_of, y_of}

-- two numbers with a comma
unfoldable pub pair : ℕ → ℕ → List ℕ
pair x y = decimal x ++ (codes "," ++ decimal y)

-- whether a neighbour has this value too
abbrev pub goes_on : Option ℕ → ℕ → Bool
goes_on None value = false
goes_on (Some neighbour) value = neighbour == value

abbrev pub value_before : List (Option ℕ) → ℕ → Option ℕ
value_before values i = if i == 0 then None else value_at values (i - 1)

-- ---- level

-- the pen is set down behind a gap, and goes up or down where the value changes
abbrev pub rise_text : (before : Option ℕ) → (value x y : ℕ) → List ℕ
rise_text None value x y = codes "M" ++ pair x y
rise_text (Some last) value x y = if last == value then [] else codes "V" ++ decimal y

-- it goes right where the value ends
abbrev pub run_text : (after : Option ℕ) → (value x : ℕ) → List ℕ
run_text after value x = if goes_on after value then [] else codes "H" ++ decimal x

abbrev pub level_text : Area → List (Option ℕ) → ℕ → Option ℕ → List ℕ
level_text area values i None = []
level_text area values i (Some value) =
    rise_text (value_before values i) value (x_of area.axis (area.axis.first + i)) (y_of area.scale value)
    ++ run_text (value_at values (i + 1)) value (x_of area.axis (area.axis.first + (i + 1)))

-- ---- straight

-- the pen is set down behind a gap, and else draws a line
abbrev pub line_text : (before : Option ℕ) → List ℕ
line_text None = codes "M"
line_text (Some last) = codes "L"

abbrev pub point_text : Area → List (Option ℕ) → List ℕ → ℕ → Option ℕ → List ℕ
point_text area values places i None = []
point_text area values places i (Some value) =
    line_text (value_before values i) ++ pair (x_of area.axis (place_among 0 (Some places) i)) (y_of area.scale value)

-- ---- the path

abbrev pub value_text : Area → List (Option ℕ) → Option (List ℕ) → ℕ → List ℕ
value_text area values None i = level_text area values i (value_at values i)
value_text area values (Some places) i = point_text area values places i (value_at values i)

-- all values, in order
unfoldable pub path_text : Area → Curve → List ℕ
path_text area curve = flat_map (value_text area curve.values curve.places) (range_with_len 0 (length curve.values))
