use Rattle.std.proofs.Common.{get_or}
use Rattle.std.proofs.lemmas.List.{get_or_default}
use Rattle.vm_plan.specs.Grants.{granted_row}
use Rattle.vm_plan.specs.PlanRow.{row_of}
use Rattle.vm_plan.proofs.GrantRunLemmas.{held_in}
use Rattle.vm_steer.proofs.TurnLemmas.{row-risen, within_wanting}
use Rattle.vm_steer.proofs.TurnLemmas.{plan_set}
use Rattle.vm_steer.proofs.moves.raise_target.Goals as goal

pub bounds-rows-position : goal.bounds-rows-position
bounds-rows-position c = within_wanting c.args.rows.now c.args.position c.requires.wants

pub returns-clause-row : goal.returns-clause-row
returns-clause-row c =
    let rows = c.args.rows.now in
    let row = get_or rows c.args.position c.index-rows-position.result in
    let there = within_wanting rows c.args.position c.requires.wants in
    let here = get_or_default rows c.args.position c.index-rows-position.result row there in
    plan_set granted_row rows c.args.position row _ there here
    (row-risen (row_of row) c.max-row.result (held_in rows c.args.position row there here c.requires.held) c.max-row.ensures)
