use Rattle.std.proofs.Common.{◌≡◌, ◌++◌, ◌≤◌, All, drop, length}
use Rattle.vm_plan.specs.PlanRow.{rows_of}
use Rattle.vm_pool.proofs.FirstLemmas.{first_mapped}
use Rattle.vm_reclaim.specs.Planning.{paged_row, row_counts}
use Rattle.vm_reclaim.specs.Reclaim.{paged_from}
use Rattle.vm_reclaim.proofs.boundary.page_rows.Given as goal

-- the first rows gave up theirs, and the rows that are left complete what is told
abbrev pub invariant-loop-position : goal.invariant-loop-position
invariant-loop-position l = record {
  ends : l.position-end ≡ length l.fn.rows;
  few : length l.rows ≡ length l.fn.rows;
  rows : rows_of l.rows ≡ first_mapped (paged_row l.state l.page_rate) l.position (rows_of l.fn.rows);
  told : l.paged.items ++ paged_from l.position (row_counts l.state l.page_rate (drop l.position (rows_of l.fn.rows))) ≡ paged_from 0 (row_counts l.state l.page_rate (rows_of l.fn.rows));
  held : All (λ row. row.target ≤ row.held) l.rows;
}
