-- What is true of each picture: no chart reaches into the room of another one, and no value leaves its chart.
use Rattle.std.specs.Prelude.{ℕ, ◌+◌, ◌<◌, ◌≤◌, ⊤, List, [], ◌∷◌, IfSome, Option, length}
use Rattle.vm_drawing.specs.declared.area.Area.{Area}
use Rattle.vm_drawing.specs.declared.scale.Axis.{Axis}
use Rattle.vm_drawing.specs.Drawing.{Chart, ends_among, shown}
use Rattle.vm_drawing.specs.Picture.{area_of, chart_shapes, room_of}
use Rattle.vm_drawing.specs.Scale.{y_of}
use Rattle.vm_drawing.specs.Shapes.{Shape, Open, Close, Words, Upright, Level, Tick, Band, Path, Mark, Entry}

-- it is true of each element
abbrev pub Each : {A : Type 0} → (A → Type 0) → List A → Type 0
Each P [] = ⊤
Each P (x ∷ xs) = P x × Each P xs

-- a value is no higher than its chart
abbrev pub IsInside : Area → Option ℕ → Type 0
IsInside area value = IfSome value (λ v. y_of area.scale v ≤ area.scale.height)

-- A shape is between two heights. Letters are at most 16 pixels high and reach 4 below their line, and a mark has a radius of 8.
abbrev pub IsBetween : (from to : ℕ) → Shape → Type 0
IsBetween from to (Open title) = ⊤
IsBetween from to Close = ⊤
IsBetween from to (Words style x y words) = (from + 16 ≤ y) × (y + 4 ≤ to)
IsBetween from to (Upright y words) = (from ≤ y) × (y ≤ to)
IsBetween from to (Level y) = (from ≤ y) × (y ≤ to)
IsBetween from to (Tick x y) = (from ≤ y) × (y + 6 ≤ to)
IsBetween from to (Band area curve spreads) =
    (from + area.scale.height ≤ area.base) × (area.base ≤ to) × Each (IsInside area) (ends_among spreads)
IsBetween from to (Path area curve) =
    (from + area.scale.height ≤ area.base) × (area.base ≤ to) × Each (IsInside area) curve.values
IsBetween from to (Mark x y number) = (from + 8 ≤ y) × (y + 8 ≤ to)
IsBetween from to (Entry x y number name) = (from + 8 ≤ y) × (y + 8 ≤ to)

-- each chart has its room to itself, below that of the one before
abbrev pub AreStacked : List ℕ → Axis → ℕ → List Chart → Type 0
AreStacked along axis y [] = ⊤
AreStacked along axis y (c ∷ cs) =
    Each (IsBetween y (y + room_of c)) (chart_shapes along (area_of axis y c) c) × AreStacked along axis (y + room_of c) cs

-- there is a word for each value, if there are words
abbrev pub HasWords : Chart → Type 0
HasWords c = 0 < length c.words → Each (λ curve. Each (λ value. IfSome value (λ v. v < length c.words)) (shown curve)) c.curves
