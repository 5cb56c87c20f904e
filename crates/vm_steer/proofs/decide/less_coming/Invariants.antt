use Rattle.std.proofs.Common.{◌≡◌, ◌-◌, drop}
use Rattle.vm_plan.specs.PlanRow.{rows_of}
use Rattle.vm_steer.specs.Deciding.{on_its_way}
use Rattle.vm_steer.proofs.decide.less_coming.Given as goal

-- the rows that are left complete what is taken off
abbrev pub invariant-loop-row : goal.invariant-loop-row
invariant-loop-row l = l.left - on_its_way (rows_of (drop l.row-index l.rows)) ≡ l.units - on_its_way (rows_of l.rows)
