-- The drawing of a series: its state, its free frames, the targets of its guests, the pages of all guests that are swapped out and
-- ballooned, and the pages that touches sent to swap, each over the epochs.
use Rattle.std.specs.Prelude.{ℕ, List, [], ◌∷◌, ◌++◌, Bool, Option, Some, None, codes, if◌then◌else◌, is_some, false, true, length, nat_lt}
use Rattle.std.specs.List.{flat_map, list_any, range_with_len}
use Rattle.vm_plan.specs.declared.state.State.TheVariants.{Low, Hard, Soft, High}
use Rattle.vm_plan.specs.State.{state_word}
use Rattle.vm_series.specs.Csv.{name_at}
use Rattle.vm_series.specs.Rows.{Row, Rows}
use Rattle.vm_drawing.specs.declared.scale.Axis.{Axis}
use Rattle.vm_series.specs.declared.samples.Measure.TheVariants.{State, Free, Target, Total, Evicted}
use Rattle.vm_series.specs.declared.samples.Pages.TheVariants.{SwappedOut, Ballooned}
use Rattle.vm_drawing.specs.Counts.{counted}
use Rattle.vm_drawing.specs.Page.{page_words}
use Rattle.vm_drawing.specs.Drawing.{Chart, Curve, Drawing, level_curve}
use Rattle.vm_series.specs.Samples.{samples}

abbrev pub state_chart : List Row → Chart
state_chart rows = record {
  title = codes "1. State of the host";
  unit = codes "state";
  words = state_word Low ∷ state_word Hard ∷ state_word Soft ∷ state_word High ∷ [];
  curves = level_curve 0 (codes "state") (samples State rows) ∷ [];
  is_keyed = false;
}

abbrev pub free_chart : List Row → Chart
free_chart rows = record {
  title = codes "2. Free frames";
  unit = codes "frames";
  words = [];
  curves = level_curve 0 (codes "free frames") (samples Free rows) ∷ [];
  is_keyed = false;
}

-- a guest that ever runs has a curve
abbrev pub target_curve : Rows → ℕ → List Curve
target_curve s position =
    if list_any is_some (samples (Target position) s.rows)
    then level_curve position (name_at s.names position) (samples (Target position) s.rows) ∷ [] else []

abbrev pub target_chart : Rows → Chart
target_chart s = record {
  title = codes "3. Targets of the guests";
  unit = codes "frames";
  words = [];
  curves = flat_map (target_curve s) (range_with_len 0 (length s.names));
  is_keyed = true;
}

abbrev pub page_chart : List Row → Chart
page_chart rows = record {
  title = codes "4. Pages of all guests swapped out and ballooned";
  unit = codes "pages";
  words = [];
  curves = level_curve 0 (codes "swapped out") (samples (Total SwappedOut) rows)
      ∷ level_curve 1 (codes "in the balloons") (samples (Total Ballooned) rows) ∷ [];
  is_keyed = true;
}

abbrev pub is_above_zero : Option ℕ → Bool
is_above_zero (Some n) = nat_lt 0 n
is_above_zero None = false

-- a guest whose touches ever sent a page to swap has a curve
abbrev pub evicted_curve : Rows → ℕ → List Curve
evicted_curve s position =
    if list_any is_above_zero (samples (Evicted position) s.rows)
    then level_curve position (name_at s.names position) (samples (Evicted position) s.rows) ∷ [] else []

abbrev pub evicted_chart : Rows → Chart
evicted_chart s = record {
  title = codes "5. Pages sent to swap by touches";
  unit = codes "pages";
  words = [];
  curves = flat_map (evicted_curve s) (range_with_len 0 (length s.names));
  is_keyed = true;
}

unfoldable pub note_of : Rows → List ℕ
note_of s =
    counted (length s.rows) (codes "epoch") ++ (codes ", " ++ (counted (length s.names) (codes "guest") ++ (codes ", "
    ++ (counted s.frames (codes "frame") ++ (codes "; " ++ page_words s.page)))))

-- an epoch begins at its place
abbrev pub epoch_axis : ℕ → Axis
epoch_axis epochs = record { first = 0; last = epochs; is_open = true }

abbrev pub drawing_of : Rows → Drawing
drawing_of s = record {
  title = codes "Memory of a host after each epoch";
  note = note_of s;
  along = codes "epoch";
  axis = epoch_axis (length s.rows);
  charts = state_chart s.rows ∷ free_chart s.rows ∷ target_chart s ∷ page_chart s.rows
      ∷ evicted_chart s ∷ [];
}
