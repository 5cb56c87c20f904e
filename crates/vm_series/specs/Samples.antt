-- What is seen of a host epoch by epoch, as numbers: the samples of a curve.
use Rattle.std.specs.Prelude.{ℕ, ◌+◌, List, [], ◌∷◌, map, Option, Some, None}
use Rattle.std.specs.Option.{option_map}
use Rattle.vm_guest.specs.declared.view.GuestView.{GuestView}
use Rattle.vm_plan.specs.State.{rank}
use Rattle.vm_series.specs.Csv.{view_in}
use Rattle.vm_series.specs.Rows.{Row, evicted_of}
use Rattle.vm_series.specs.declared.samples.Measure.{Measure}
use Rattle.vm_series.specs.declared.samples.Measure.TheVariants.{State, Free, Target, Total, Evicted}
use Rattle.vm_series.specs.declared.samples.Pages.{Pages}
use Rattle.vm_series.specs.declared.samples.Pages.TheVariants.{SwappedOut, Ballooned}

abbrev pub pages_of : Pages → GuestView → ℕ
pages_of SwappedOut g = g.swapped
pages_of Ballooned g = g.balloon

-- where no guest runs there are none
abbrev pub pages_in : Pages → Option GuestView → ℕ
pages_in pages None = 0
pages_in pages (Some g) = pages_of pages g

-- the pages of all guests
abbrev pub total : Pages → List (Option GuestView) → ℕ
total pages [] = 0
total pages (view ∷ views) = pages_in pages view + total pages views

-- what a measure is after an epoch; a guest that doesn't run has no target, and evicts nothing that is told
abbrev pub sample : Measure → Row → Option ℕ
sample State row = Some (rank row.state)
sample Free row = Some row.free
sample (Target position) row = option_map (λ g. g.target) (view_in row position)
sample (Total pages) row = Some (total pages row.views)
sample (Evicted position) row = option_map evicted_of (view_in row position)

-- one for each epoch
abbrev pub samples : Measure → List Row → List (Option ℕ)
samples measure rows = map (sample measure) rows
