use Rattle.std.proofs.Common.{◌∙◌, sym, ap, true, false}
use Rattle.vm_import.specs.SetSteps.{AddsFront, touched_all}
use Rattle.vm_import.specs.Touches.{touches_by}
use Rattle.vm_import.proofs.SoundLemmas.{added_behind, added_front, added_same, all_added, any_err, on_err, on_ok, touches-Modify, touches-Read, touches-Write}
use Rattle.vm_import.proofs.working_set.WorkingSet.touch_all.Goals as goal

pub returns-in_err-touch_by-in-Modify-clause-err : goal.returns-in_err-touch_by-in-Modify-clause-err
returns-in_err-touch_by-in-Modify-clause-err c =
    let some : AddsFront c.args.self.now c.touch_by-in-Modify.new.self (touches_by false c.args.address c.args.size) = c.in_err-touch_by-in-Modify.ensures.err in
    any_err c.from_residual.result _ (added_same _ _ _ _ (touches-Modify c.args.effect c.args.address c.args.size c.in-Modify.is) (added_front _ _ _ (touches_by true c.args.address c.args.size) some))

pub returns-in-Read-clause-ok : goal.returns-in-Read-clause-ok
returns-in-Read-clause-ok c =
    on_ok c.touch_by.result _ _ (λ is. is ∙ ap (touched_all c.args.self.now) (sym (touches-Read c.args.effect c.args.address c.args.size c.in-Read.is))) c.touch_by.ensures.ok

pub returns-in-Read-clause-err : goal.returns-in-Read-clause-err
returns-in-Read-clause-err c =
    on_err c.touch_by.result _ _ (λ some. added_same _ _ _ _ (touches-Read c.args.effect c.args.address c.args.size c.in-Read.is) some) c.touch_by.ensures.err

pub returns-in-Write-clause-ok : goal.returns-in-Write-clause-ok
returns-in-Write-clause-ok c =
    on_ok c.touch_by-in-Write.result _ _ (λ is. is ∙ ap (touched_all c.args.self.now) (sym (touches-Write c.args.effect c.args.address c.args.size c.in-Write.is))) c.touch_by-in-Write.ensures.ok

pub returns-in-Write-clause-err : goal.returns-in-Write-clause-err
returns-in-Write-clause-err c =
    on_err c.touch_by-in-Write.result _ _ (λ some. added_same _ _ _ _ (touches-Write c.args.effect c.args.address c.args.size c.in-Write.is) some) c.touch_by-in-Write.ensures.err

pub returns-in_ok-touch_by-in-Modify-clause-ok : goal.returns-in_ok-touch_by-in-Modify-clause-ok
returns-in_ok-touch_by-in-Modify-clause-ok c =
    on_ok c.touch_by-in-Modify-2.result _ _
    (λ is. all_added c.args.self.now c.touch_by-in-Modify.new.self _ (touches_by false c.args.address c.args.size) (touches_by true c.args.address c.args.size) c.in_ok-touch_by-in-Modify.ensures.ok is
    ∙ ap (touched_all c.args.self.now) (sym (touches-Modify c.args.effect c.args.address c.args.size c.in-Modify.is)))
    c.touch_by-in-Modify-2.ensures.ok

pub returns-in_ok-touch_by-in-Modify-clause-err : goal.returns-in_ok-touch_by-in-Modify-clause-err
returns-in_ok-touch_by-in-Modify-clause-err c =
    on_err c.touch_by-in-Modify-2.result _ _
    (λ some. added_same _ _ _ _ (touches-Modify c.args.effect c.args.address c.args.size c.in-Modify.is)
    (added_behind c.args.self.now c.touch_by-in-Modify.new.self _ (touches_by false c.args.address c.args.size) (touches_by true c.args.address c.args.size) c.in_ok-touch_by-in-Modify.ensures.ok some))
    c.touch_by-in-Modify-2.ensures.err
