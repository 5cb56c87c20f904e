use Rattle.std.proofs.Common.{◌-◌, ◌∙◌, ap, arith}
use Rattle.vm_plan.specs.PlanRow.{rows_of as plan_rows}
use Rattle.vm_pool.specs.Guests.{sum_of}
use Rattle.vm_reclaim.specs.Making.{shares_of}
use Rattle.vm_reclaim.specs.Room.{raised}
use Rattle.vm_tax.specs.Ratio.{hundredths}
use Rattle.vm_reclaim.proofs.RoomLemmas.{list_before}
use Rattle.vm_reclaim.proofs.RowLemmas.{shares_are}
use Rattle.vm_reclaim.proofs.room.plan_room.Goals as goal

pub returns-clause-counts : goal.returns-clause-counts
returns-clause-counts c =
    let short = c.saturating_sub.ensures ∙ ap (λ n. c.args.needed - n) c.free.ensures.free in
    let rows = ap plan_rows c.deref.ensures.value ∙ c.in_ok-rows.ensures.rows in
    c.in_ok-given.ensures.counts
    ∙ ((λ i. shares_of (short i) (rows i)) ∙ shares_are (c.args.needed - c.args.pool.now.free) (raised c.args.raise c.args.pool.now).guests)

pub returns-clause-plan : goal.returns-clause-plan
returns-clause-plan c =
    let pool = c.args.pool.now in
    let short = c.saturating_sub.ensures ∙ ap (λ n. c.args.needed - n) c.free.ensures.free in
    let rows = ap plan_rows c.deref.ensures.value ∙ c.in_ok-rows.ensures.rows in
    let seen = ap plan_rows c.deref-2.ensures.value ∙ c.in_ok-rows.ensures.rows in
    let counts = (λ i. shares_of (short i) (rows i)) ∙ shares_are (c.args.needed - pool.free) (raised c.args.raise pool).guests in
    let given = ap sum_of counts in
    let left = c.in_ok-given.ensures.short in
    let wide = c.from.ensures in
    list_before (hundredths c.args.tax) c.args.raise c.args.needed c.from.result pool (plan_rows c.deref-2.result.now) c.in_ok-plan.plan
    (omega (arith, short, given, left, wide)) seen c.in_ok-plan.ensures.exact
