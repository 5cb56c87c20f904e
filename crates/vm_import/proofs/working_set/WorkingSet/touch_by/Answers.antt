use Rattle.std.proofs.Common.{◌/◌, ◌%◌}
use Rattle.vm_import.specs.Touches.{touch, touches_by}
use Rattle.vm_import.proofs.SoundLemmas.{added_first, added_none, any_err, by_one, by_two, on_err, on_ok}
use Rattle.vm_import.proofs.working_set.WorkingSet.touch_by.Goals as goal

pub returns-in_err-touch-clause-err : goal.returns-in_err-touch-clause-err
returns-in_err-touch-clause-err c =
    any_err c.from_residual.result _ (added_none c.args.self.now c.touch.new.self (touches_by c.args.writes c.args.address c.args.size) c.in_err-touch.ensures.err)

pub returns-then-offset-size-gt4096-clause-ok : goal.returns-then-offset-size-gt4096-clause-ok
returns-then-offset-size-gt4096-clause-ok c =
    on_ok c.touch-then-offset-size-gt4096.result _ _
    (λ is. by_two c.args.self.now c.touch.new.self _ c.args.writes c.args.address c.args.size c.if-offset-size-gt4096.true c.in_ok-touch.ensures.ok is)
    c.touch-then-offset-size-gt4096.ensures.ok

pub returns-then-offset-size-gt4096-clause-err : goal.returns-then-offset-size-gt4096-clause-err
returns-then-offset-size-gt4096-clause-err c =
    on_err c.touch-then-offset-size-gt4096.result _ _
    (λ is. added_first c.args.self.now c.touch.new.self c.touch-then-offset-size-gt4096.new.self (touch (c.args.address / 4096) (c.args.address % 4096) c.args.writes) _ c.in_ok-touch.ensures.ok is)
    c.touch-then-offset-size-gt4096.ensures.err

pub returns-clause-ok : goal.returns-clause-ok
returns-clause-ok c = by_one c.args.self.now c.touch.new.self c.args.writes c.args.address c.args.size c.if-offset-size-gt4096.false c.in_ok-touch.ensures.ok
