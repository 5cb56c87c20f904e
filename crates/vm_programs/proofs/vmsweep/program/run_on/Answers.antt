use Rattle.std.proofs.Common.{sym, subst}
use Rattle.vm_programs.specs.vmsweep.Written.{IsRefusedUnder, StopsEarly}
use Rattle.vm_programs.proofs.lemmas.vmsweep.Status.{kept-by, refused-by, stopped-by, taken-by}
use Rattle.vm_programs.proofs.vmsweep.program.run_on.Goals as goal

pub returns-clause-refused : goal.returns-clause-refused
returns-clause-refused g c = λ one.
    subst (IsRefusedUnder _ _) c.lists_of-lists.ensures
    (refused-by _ _ _ _ c.args.asked.form c.lists_of-lists.result c.in-Ok.text.items c.deref.result.now c.deref.ensures.value
    c.complain_of_sweep.result c.in-Err-write_form.error c.complain_of_sweep.ensures c.in-Err-write_form.ensures.failed c.in-Ok.ensures.text
    c.in-Ok.ensures.end one)

pub returns-clause-stopped : goal.returns-clause-stopped
returns-clause-stopped g c = λ three.
    subst (StopsEarly _ _ _ _ c.args.asked.form) c.lists_of-lists.ensures
    (stopped-by _ _ _ _ c.args.asked.form c.lists_of-lists.result c.in-Ok.text.items c.deref.result.now c.deref.ensures.value
    c.complain_of_sweep.result c.in-Err-write_form.error c.complain_of_sweep.ensures c.in-Err-write_form.ensures.failed c.in-Ok.ensures.text
    c.in-Ok.ensures.end three)

pub returns-clause-silent : goal.returns-clause-silent
returns-clause-silent g c =
    kept-by _ _ c.args.asked.form c.lists_of-lists.result c.deref.result.now c.complain_of_sweep.result c.in-Err-write_form.error
    c.complain_of_sweep.ensures c.in-Err-write_form.ensures.failed

pub returns-clause-taken : goal.returns-clause-taken
returns-clause-taken g c =
    taken-by _ _ c.args.asked.form c.lists_of-lists.result c.deref.result.now c.complain_of_sweep.result c.in-Err-write_form.error
    c.complain_of_sweep.ensures c.in-Err-write_form.ensures.failed
