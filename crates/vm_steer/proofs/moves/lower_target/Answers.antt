use Rattle.std.proofs.Common.{get_or, refl}
use Rattle.std.proofs.lemmas.List.{get_or_default}
use Rattle.vm_plan.specs.Revocation.{revoked_row}
use Rattle.vm_steer.proofs.TurnLemmas.{within_rows}
use Rattle.vm_steer.proofs.TurnLemmas.{plan_set}
use Rattle.vm_steer.proofs.moves.lower_target.Goals as goal

pub bounds-rows-position : goal.bounds-rows-position
bounds-rows-position c = within_rows c.args.rows.now c.args.position c.requires.above

pub returns-clause-row : goal.returns-clause-row
returns-clause-row c =
    let rows = c.args.rows.now in
    let row = get_or rows c.args.position c.index-rows-position.result in
    let there = within_rows rows c.args.position c.requires.above in
    plan_set revoked_row rows c.args.position row _ there (get_or_default rows c.args.position _ row there) refl
