use Rattle.std.proofs.Common.{ℕ, ◌<◌, IfSome, slice_get}
use Rattle.vm_tax.specs.Price.{ratio_of}
use Rattle.vm_tax.specs.Ratio.{hundredths}
use Rattle.vm_plan.specs.PlanRow.{rows_of}
use Rattle.vm_plan.specs.Runs.{Leads}
use Rattle.vm_plan.proofs.rebalance.leads_all.Given as goal

-- the guest comes before each of the first ones
abbrev pub invariant-loop-i : goal.invariant-loop-i
invariant-loop-i l = record {
  led : (k : ℕ) → k < l.i → IfSome (slice_get (rows_of l.rows) k) (λ row. Leads (hundredths l.tax) (ratio_of l.price) l.position row k);
}
