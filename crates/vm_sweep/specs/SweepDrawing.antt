-- The drawing of a sweep: what a host pages and whom it lets wait, each over the frames of its machine.
use Rattle.std.specs.Prelude.{ℕ, ◌-◌, ◌==◌, ◌||◌, Bool, List, [], ◌∷◌, ◌++◌, codes, false, true, is_some, length, map, not, Option, None, Some, slice_get}
use Rattle.std.specs.List.{enumerate_from}
use Rattle.vm_drawing.specs.declared.scale.Axis.{Axis}
use Rattle.vm_drawing.specs.Counts.{counted}
use Rattle.vm_drawing.specs.Drawing.{Chart, Curve, Drawing, banded_curve, straight_curve}
use Rattle.vm_drawing.specs.Page.{page_words}
use Rattle.vm_sweep.specs.Combinations.{ValueLists, rebalancing_of}
use Rattle.vm_sweep.specs.declared.points.Measure.{Measure}
use Rattle.vm_sweep.specs.declared.points.Measure.TheVariants.{Moved, Waited}
use Rattle.vm_sweep.specs.declared.points.SweptPoint.{SweptPoint}
use Rattle.vm_tally.specs.declared.table.Rebalancing.{Rebalancing}
use Rattle.vm_tally.specs.declared.table.Rebalancing.TheVariants.{Own, Swept}
use Rattle.vm_sweep.specs.SweptRuns.{machine_count, place_of, places_of, spreads_of, values_of}

-- ---- curves

-- the curve of the combination with this number; where it is said how many seeds there are it has a band
abbrev pub swept_curve : Measure → (seeds : Option ℕ) → List SweptPoint → (curves number : ℕ) → (name : List ℕ) → Curve
swept_curve measure None points curves number name =
    straight_curve number name (values_of measure points curves number) (places_of points curves number)
swept_curve measure (Some seeds) points curves number name =
    banded_curve number name (values_of measure points curves number) (places_of points curves number)
    (spreads_of measure points curves number)

-- one for each name
abbrev pub swept_curves : Measure → (seeds : Option ℕ) → (names : List (List ℕ)) → List SweptPoint → List Curve
swept_curves measure seeds names points =
    map (λ each. swept_curve measure seeds points (length names) each.0 each.1) (enumerate_from 0 names)

-- ---- charts

-- what a curve and its band are, where it is said how many seeds there are
unfoldable pub seeds_words : (seeds : Option ℕ) → List ℕ
seeds_words None = []
seeds_words (Some seeds) = codes ": medians of " ++ (counted seeds (codes "seed") ++ codes ", from least to greatest")

abbrev pub sweep_chart : (title unit : List ℕ) → Measure → (seeds : Option ℕ) → (names : List (List ℕ)) → List SweptPoint → Chart
sweep_chart title unit measure seeds names points = record {
  title = title ++ seeds_words seeds;
  unit = unit;
  words = [];
  curves = swept_curves measure seeds names points;
  is_keyed = true;
}

abbrev pub sweep_charts : (seeds : Option ℕ) → (names : List (List ℕ)) → List SweptPoint → List Chart
sweep_charts seeds names points =
    sweep_chart (codes "1. Frames paged and pages evicted") (codes "pages") Moved seeds names points
    ∷ sweep_chart (codes "2. Guests blocked or stalled") (codes "guests") Waited seeds names points ∷ []

-- ---- words

-- whether runs have other minimums, or other shares
abbrev pub has_minimums : ValueLists → Bool
has_minimums lists = is_some lists.min_percent || not (length lists.minimums == 0)

abbrev pub has_shares : ValueLists → Bool
has_shares lists = not (length lists.shares == 0)

-- what a combination is of
unfoldable pub settings_of : Rebalancing → (has_minimums has_shares : Bool) → List ℕ
settings_of Own false false = codes "swap, tax and page rate"
settings_of Own true false = codes "swap, tax, page rate and minimums"
settings_of Own false true = codes "swap, tax, page rate and shares"
settings_of Own true true = codes "swap, tax, page rate, minimums and shares"
settings_of Swept false false = codes "swap, tax, page rate and rebalance"
settings_of Swept true false = codes "swap, tax, page rate, rebalance and minimums"
settings_of Swept false true = codes "swap, tax, page rate, rebalance and shares"
settings_of Swept true true = codes "swap, tax, page rate, rebalance, minimums and shares"

unfoldable pub runs_words : ValueLists → (machines combined : ℕ) → List ℕ
runs_words lists machines combined =
    counted machines (codes "machine") ++ (codes ", " ++ (counted combined (codes "combination") ++ (codes " of "
    ++ settings_of (rebalancing_of lists) (has_minimums lists) (has_shares lists))))

unfoldable pub note_of : ValueLists → (page machines combined : ℕ) → List ℕ
note_of lists page machines combined = runs_words lists machines combined ++ (codes "; sums over all epochs; " ++ page_words page)

-- ---- the drawing

-- from the first machine to the last
abbrev pub frame_axis : List SweptPoint → Axis
frame_axis points = record {
  first = place_of (slice_get points 0);
  last = place_of (slice_get points (length points - 1));
  is_open = false;
}

-- of these points, with a curve for each name
abbrev pub sweep_drawing : ValueLists → (page : ℕ) → (names : List (List ℕ)) → List SweptPoint → Drawing
sweep_drawing lists page names points = record {
  title = codes "What a host pages and whom it lets wait on each machine";
  note = note_of lists page (machine_count points (length names)) (length names);
  along = codes "frames";
  axis = frame_axis points;
  charts = sweep_charts lists.seeds names points;
}
