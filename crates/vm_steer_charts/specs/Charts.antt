-- The drawing of a host log: its state, its free units, and what its steered domains are meant to hold, hold and use, each over the good
-- samples.
use Rattle.std.specs.Prelude.{ℕ, ◌+◌, ◌-◌, List, [], ◌∷◌, ◌++◌, codes, false, true, length, map}
use Rattle.std.specs.Fmt.{decimal}
use Rattle.vm_drawing.specs.declared.scale.Axis.{Axis}
use Rattle.vm_drawing.specs.Counts.{counted}
use Rattle.vm_drawing.specs.Drawing.{Chart, Curve, Drawing, level_curve}
use Rattle.vm_plan.specs.declared.state.State.TheVariants.{Low, Hard, Soft, High}
use Rattle.vm_plan.specs.State.{state_word}
use Rattle.vm_samples.specs.Policies.{PolicyView}
use Rattle.vm_steer.specs.Entries.{ToldView}
use Rattle.vm_steer.specs.Text.{printed}
use Rattle.vm_steer_charts.specs.declared.values.Measure.{Measure}
use Rattle.vm_steer_charts.specs.declared.values.Measure.TheVariants.{Target, Held, Used}
use Rattle.vm_steer_charts.specs.Rows.{Row, last_of, row_of}
use Rattle.vm_steer_charts.specs.Values.{frees, names_drawn, states, values}

-- ---- charts of the host

abbrev pub state_chart : List Row → Chart
state_chart rows = record {
  title = codes "1. State of the host";
  unit = codes "state";
  words = state_word Low ∷ state_word Hard ∷ state_word Soft ∷ state_word High ∷ [];
  curves = level_curve 0 (codes "state") (states rows) ∷ [];
  is_keyed = false;
}

abbrev pub free_chart : List Row → Chart
free_chart rows = record {
  title = codes "2. Free units";
  unit = codes "units";
  words = [];
  curves = level_curve 0 (codes "free units") (frees rows) ∷ [];
  is_keyed = false;
}

-- ---- charts of the domains

abbrev pub title_of : Measure → List ℕ
title_of Target = codes "3. Targets of the steered domains"
title_of Held = codes "4. What the steered domains hold"
title_of Used = codes "5. What the steered domains use"

-- a curve for each name, numbered from here on
abbrev pub curves_from : Measure → List Row → (number : ℕ) → (names : List (List ℕ)) → List Curve
curves_from measure rows number [] = []
curves_from measure rows number (name ∷ names) =
    level_curve number (printed name) (values measure name rows) ∷ curves_from measure rows (number + 1) names

abbrev pub domain_chart : Measure → List Row → Chart
domain_chart measure rows = record {
  title = title_of measure;
  unit = codes "units";
  words = [];
  curves = curves_from measure rows 0 (names_drawn rows);
  is_keyed = true;
}

-- ---- the whole

unfoldable pub note_of : PolicyView → List Row → List ℕ
note_of policy rows =
    counted (length rows) (codes "sample") ++ (codes ", " ++ (counted (length (names_drawn rows)) (codes "domain") ++ (codes ", "
    ++ (counted policy.memory (codes "unit") ++ (codes " of " ++ (decimal policy.unit ++ codes " KiB"))))))

-- a sample begins at its place among the good ones
abbrev pub sample_axis : (first count : ℕ) → Axis
sample_axis first count = record { first = first; last = first + count; is_open = true }

-- what is drawn of samples behind so many that are left out
abbrev pub drawing_from : PolicyView → (first : ℕ) → List Row → Drawing
drawing_from policy first rows = record {
  title = codes "Memory of a host after each sample";
  note = note_of policy rows;
  along = codes "sample";
  axis = sample_axis first (length rows);
  charts =
      state_chart rows ∷ free_chart rows ∷ domain_chart Target rows ∷ domain_chart Held rows ∷ domain_chart Used rows ∷ [];
}

-- what is drawn where this was told of the good samples: the last 10000 of them
abbrev pub drawing_of : PolicyView → List ToldView → Drawing
drawing_of policy told = drawing_from policy (length told - 10000) (map row_of (last_of 10000 told))
