-- What the column `evicted` of a series adds up to.
use Rattle.std.specs.Prelude.{◌≡◌, ℕ, Option, Some, None}
use Rattle.vm_config.specs.declared.config.Config.{Config}
use Rattle.vm_guest.specs.Record.{saturated}
use Rattle.vm_guest.specs.declared.view.GuestView.{GuestView}
use Rattle.vm_series.specs.Rows.{Row, evicted_of, row_of, rows_of}
use Rattle.vm_tally.specs.Counting.{first_greatest_over, sum_each}
use Rattle.vm_tally.specs.Summary.{summary_of}

-- where no guest runs none was sent
abbrev pub evicted_in_view : Option GuestView → ℕ
evicted_in_view None = 0
evicted_in_view (Some g) = evicted_of g

-- the pages that touches of all guests of a row sent to swap
abbrev pub evicted_in_row : Row → ℕ
evicted_in_row row = sum_each evicted_in_view row.views

-- what a run is told to have sent is what its rows add up to, and its worst epoch the first whose row has the most; a sum stops at the
-- greatest number of 64 bits
pub record AddsUpRows (c : Config) : Type 0 where
  pub evicted : (summary_of c).evicted ≡ saturated (sum_each evicted_in_row (rows_of c).rows)
  pub worst : (summary_of c).worst ≡ first_greatest_over (λ k. saturated (evicted_in_row (row_of c k))) c.epochs
