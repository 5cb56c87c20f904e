use Rattle.vm_programs.proofs.lemmas.vmsweep.Guests.{each-given, if-err-as, if-ok-as}
use Rattle.vm_programs.proofs.vmsweep.guests.given_each.Goals as goal

pub returns-in-Some-clause-lists : goal.returns-in-Some-clause-lists
returns-in-Some-clause-lists c =
    if-ok-as c.read_each.result _ _ (each-given c.args.key c.args.request.now c.word.result.now c.word.ensures _ c.in-Some.ensures) _
    c.read_each.ensures.lists

pub returns-in-Some-clause-fault : goal.returns-in-Some-clause-fault
returns-in-Some-clause-fault c =
    if-err-as c.read_each.result _ _ (each-given c.args.key c.args.request.now c.word.result.now c.word.ensures _ c.in-Some.ensures)
    c.read_each.ensures.fault
