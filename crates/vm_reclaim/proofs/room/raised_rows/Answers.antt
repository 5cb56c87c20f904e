use Rattle.std.specs.Global.{Global}
use Rattle.std.proofs.lemmas.List.{with_items_is}
use Rattle.std.proofs.Common.{Vec, arith, ◌≤◌, ◌∙◌, List, IfSome, Option, ap, subst, sym, slice_get}
use Rattle.vm_plan.specs.declared.row.PlanRow.{PlanRow}
use Rattle.vm_plan.specs.PlanRow.{rows_of as plan_rows}
use Rattle.vm_plan.specs.Row.{Row, change_at}
use Rattle.vm_reclaim.specs.declared.room.Raise.{Raise}
use Rattle.vm_reclaim.specs.Making.{raised_row, CanRaise}
use Rattle.vm_reclaim.specs.Room.{raised}
use Rattle.vm_reclaim.specs.Rows.{rows_of}
use Rattle.vm_reclaim.proofs.RowLemmas.{if_plan, raised_cap, rows_raised}
use Rattle.vm_reclaim.proofs.room.raised_rows.Goals as goal
use Rattle.vm_reclaim.proofs.room.raised_rows.Goals.{in-Some, in_default}

pub raise_at-requires-clause-to : goal.raise_at-requires-clause-to
raise_at-requires-clause-to c =
    let pool = c.args.pool.now in
    let raise = c.in-Some.raise in
    let rows = ap plan_rows c.deref_mut.ensures.value ∙ c.in_ok-rows.ensures.rows in
    let can = subst (λ (r : Option Raise). CanRaise r pool) c.in-Some.is c.requires in
    if_plan (λ (row : Row). raise.least ≤ row.cap) c.deref_mut.result.now raise.position
    (subst (λ (rows : List Row). IfSome (slice_get rows raise.position) (λ row. raise.least ≤ row.cap)) (sym rows) (raised_cap raise pool can))

pub returns-clause-rows : goal.returns-clause-rows
returns-clause-rows c =
    let pool = c.args.pool.now in
    elim c.match-raise.branch [
      | in-Some w ↦
          let raise = w.in-Some.raise in
          let new = w.raise_at.new.rows in
          let whole = with_items_is c.in_ok-rows.rows new (omega arith) in
          let rows = ap plan_rows w.deref_mut.ensures.value ∙ c.in_ok-rows.ensures.rows in
          let can = subst (λ (r : Option Raise). CanRaise r pool) w.in-Some.is c.requires in
          ap (λ (v : Vec PlanRow Global). plan_rows v.items) w.rows-is
          ∙ (ap plan_rows whole
          ∙ (w.raise_at.ensures
          ∙ (ap (λ (rows : List Row). change_at (raised_row raise.least) rows raise.position) rows
          ∙ (rows_raised raise pool can
          ∙ ap (λ (r : Option Raise). rows_of (raised r pool).guests) (sym w.in-Some.is)))))
      | in_default w ↦
          ap (λ (v : Vec PlanRow Global). plan_rows v.items) w.rows-is
          ∙ (c.in_ok-rows.ensures.rows
          ∙ ap (λ (r : Option Raise). rows_of (raised r pool).guests) (sym w.in_default.is))
    ]
