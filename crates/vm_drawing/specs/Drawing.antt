-- What is drawn: charts over one axis, and the curves in them.
use Rattle.std.specs.Prelude.{ℕ, ◌+◌, List, [], ◌∷◌, ◌++◌, Bool, Option, Some, None, option_map, slice_get, unwrap_or}
use Rattle.vm_drawing.specs.declared.scale.Axis.{Axis}
use Rattle.vm_drawing.specs.declared.spread.Spread.{Spread}

pub record Curve : Type 0 where
  -- its number, from 0: it is shown from 1
  pub number : ℕ
  pub name : List ℕ
  -- none where the curve has a gap
  pub values : List (Option ℕ)
  -- where each value stands, or none where each is level from one whole place to the next
  pub places : Option (List ℕ)
  -- from where to where the band behind it goes at each place, or none where it has no band; it may have gaps too
  pub band : Option (List (Option Spread))

-- each value is level, from the first place of the axis on
abbrev pub level_curve : ℕ → List ℕ → List (Option ℕ) → Curve
level_curve number name values = record { number = number; name = name; values = values; places = None; band = None }

-- straight lines lead from each value to the next
abbrev pub straight_curve : ℕ → List ℕ → List (Option ℕ) → List ℕ → Curve
straight_curve number name values places = record { number = number; name = name; values = values; places = Some places; band = None }

-- the same with a band behind it
abbrev pub banded_curve : ℕ → List ℕ → List (Option ℕ) → List ℕ → List (Option Spread) → Curve
banded_curve number name values places spreads = record {
  number = number;
  name = name;
  values = values;
  places = Some places;
  band = Some spreads;
}

abbrev pub value_at : List (Option ℕ) → ℕ → Option ℕ
value_at values i = unwrap_or (slice_get values i) None

-- where a value stands, or begins
abbrev pub place_among : (first : ℕ) → Option (List ℕ) → ℕ → ℕ
place_among first None i = first + i
place_among first (Some places) i = unwrap_or (slice_get places i) 0

abbrev pub place_at : Axis → Curve → ℕ → ℕ
place_at axis curve i = place_among axis.first curve.places i

-- ---- what a curve shows

-- the least and the greatest values of a band
abbrev pub ends_among : List (Option Spread) → List (Option ℕ)
ends_among [] = []
ends_among (spread ∷ spreads) =
    option_map (λ s. s.least) spread ∷ option_map (λ s. s.greatest) spread ∷ ends_among spreads

abbrev pub ends_of : Option (List (Option Spread)) → List (Option ℕ)
ends_of None = []
ends_of (Some spreads) = ends_among spreads

-- the values of a curve, and those of its band
abbrev pub shown : Curve → List (Option ℕ)
shown curve = ends_of curve.band ++ curve.values

-- ---- charts

pub record Chart : Type 0 where
  pub title : List ℕ
  -- what its values count
  pub unit : List ℕ
  -- the words of the values from 0 up, or none where they are numbers
  pub words : List (List ℕ)
  pub curves : List Curve
  -- whether its curves have marks, and a legend
  pub is_keyed : Bool

pub record Drawing : Type 0 where
  pub title : List ℕ
  -- what else is said of it
  pub note : List ℕ
  -- what the places along the axis are
  pub along : List ℕ
  pub axis : Axis
  pub charts : List Chart
