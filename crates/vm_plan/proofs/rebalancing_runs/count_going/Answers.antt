use Rattle.std.proofs.Common.{◌≡◌, ◌+◌, ◌-◌, ℕ, subst, arith}
use Rattle.vm_tax.specs.Ratio.{hundredths}
use Rattle.vm_plan.specs.PlanRow.{row_of, rows_of}
use Rattle.vm_plan.specs.Runs.{GoesOn}
use Rattle.vm_plan.proofs.rebalancing_runs.count_going.Goals as goal

pub returns-clause-last : goal.returns-clause-last
returns-clause-last c = λ more.
    let same : c.loop-low.low ≡ (c.loop-low.low + 1) - 1 = omega arith in
    subst (λ (n : ℕ). GoesOn (hundredths c.args.tax) (rows_of c.args.rows.now) (row_of c.args.giver.now) (row_of c.args.taker.now) c.args.transfer.giver c.args.transfer.taker c.args.rivals.giver c.args.rivals.taker n) same
    (c.loop-low.invariant.last (omega (arith, more)))
