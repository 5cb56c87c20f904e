use Rattle.std.proofs.Common.{◌∙◌, ap, sym}
use Rattle.vm_plan.specs.declared.row.PlanRow.{PlanRow}
use Rattle.vm_plan.specs.PlanRow.{row_of}
use Rattle.vm_reclaim.specs.Making.{raised_row}
use Rattle.vm_reclaim.proofs.RowLemmas.{plan_set}
use Rattle.vm_reclaim.proofs.room.raise_at.Goals as goal

pub returns : goal.returns
returns c =
    plan_set (raised_row c.args.least) c.args.rows.now c.args.position c.index-rows-position.result c.raise_row.result c.requires.within c.index-rows-position.is
    (c.raise_row.ensures ∙ ap (λ (r : PlanRow). raised_row c.args.least (row_of r)) (sym c.index-rows-position.is))
