-- Each chart of a series has a word for each of its values, if it has words.
use Rattle.std.proofs.Common.{◌≡◌, ℕ, ◌<◌, List, ◌∷◌, [], length, IfSome, arith, refl}
use Rattle.vm_series.specs.declared.samples.Measure.TheVariants.{State}
use Rattle.vm_series.specs.Samples.{samples}
use Rattle.vm_series.specs.Series.{drawing_of, evicted_chart, free_chart, page_chart, target_chart}
use Rattle.vm_drawing.specs.Drawing.{Chart}
use Rattle.vm_drawing.specs.Stacked.{Each, HasWords}
use Rattle.vm_plan.specs.declared.state.State.{State as HostState}
use Rattle.vm_plan.specs.declared.state.State.TheVariants.{Low, Hard, Soft, High}
use Rattle.vm_plan.specs.State.{rank}
use Rattle.vm_series.specs.Rows.{Row, Rows}

rank-below : (state : HostState) → rank state < 4
rank-below Low = omega arith
rank-below Hard = omega arith
rank-below Soft = omega arith
rank-below High = omega arith

states-below : (rows : List Row) → Each (λ value. IfSome value (λ v. v < 4)) (samples State rows)
states-below [] = tt
states-below (row ∷ rows) = (rank-below row.state, states-below rows)

-- where there is no word none is asked for
no-words : (c : Chart) → length c.words ≡ 0 → HasWords c
no-words c none = λ some. absurd (omega (arith, none, some))

pub series-has_words : (s : Rows) → Each HasWords (drawing_of s).charts
series-has_words s = (
  (λ some. (states-below s.rows, tt)),
  (
    no-words (free_chart s.rows) refl,
    (
      no-words (target_chart s) refl,
      (
        no-words (page_chart s.rows) refl,
        (no-words (evicted_chart s) refl, tt),
      ),
    ),
  ),
)
