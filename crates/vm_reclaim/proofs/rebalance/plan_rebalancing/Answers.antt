use Rattle.std.proofs.Common.{◌≡◌, ◌∙◌, IfOk, List, ℕ, ap, subst, sym}
use Rattle.std.proofs.lemmas.Bool.{false≢true}
use Rattle.std.proofs.lemmas.Result.{IfOk-weaker}
use Rattle.vm_plan.specs.PlanRow.{rows_of}
use Rattle.vm_plan.specs.Rebalancing.{IsRebalancingList}
use Rattle.vm_plan.specs.Row.{Row}
use Rattle.vm_plan.proofs.KeepLemmas.{Each}
use Rattle.vm_reclaim.specs.Numbers.{policy_in}
use Rattle.vm_reclaim.specs.Planning.{drivers_of, floored_rows, rebalances_of, rows_granted}
use Rattle.vm_reclaim.proofs.BalanceLemmas.{list-is, stays}
use Rattle.vm_reclaim.proofs.rebalance.plan_rebalancing.Goals as goal

pub returns-then-not-moves_pages-clause-plan : goal.returns-then-not-moves_pages-clause-plan
returns-then-not-moves_pages-clause-plan c =
    c.new.ensures
    ∙ stays (policy_in c.args.numbers.now) c.args.state (drivers_of c.args.pool.now.guests) (rows_granted (rows_of c.args.rows.now) c.args.granted.now)
    (λ may. false≢true (sym c.if-not-moves_pages.true ∙ c.moves_pages.ensures.1 may))

pub returns-clause-plan : goal.returns-clause-plan
returns-clause-plan c =
    let policy = policy_in c.args.numbers.now in
    let state = c.args.state in
    let drivers = drivers_of c.args.pool.now.guests in
    let list = list-is policy state drivers (rows_of c.raise_targets.new.rows) (rows_of c.raise_floors.new.rows) c.less_returning-limit.result c.min-wanted.result c.unmet_demand.result
    (c.moves_pages.ensures.0 c.if-not-moves_pages.false).0 c.less_returning-limit.ensures c.min-wanted.ensures c.unmet_demand.ensures c.raise_floors.ensures in
    let is = list ∙ ap (rebalances_of policy state drivers) c.raise_targets.ensures.rows in
    subst (λ (moves : List ℕ). IfOk c.rebalancing.result (λ plan. plan ≡ moves)) is c.rebalancing.ensures.exact

pub returns-clause-each_next : goal.returns-clause-each_next
returns-clause-each_next c =
    let policy = policy_in c.args.numbers.now in
    let drivers = drivers_of c.args.pool.now.guests in
    let floored = c.raise_floors.ensures ∙ ap (floored_rows drivers) c.raise_targets.ensures.rows in
    IfOk-weaker c.rebalancing.result (IsRebalancingList policy.tax c.less_returning-limit.result (rows_of c.raise_floors.new.rows)) _
    (λ givers list. subst (λ (rows : List Row). Each policy.tax rows givers) floored list.each_next) c.rebalancing.ensures.list
