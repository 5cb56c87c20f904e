use Rattle.vm_programs.proofs.lemmas.vmsweep.Swept.{swept-as}
use Rattle.vm_programs.specs.declared.vmsweep.asked.Form.TheVariants.{Drawing, Guests, Table}
use Rattle.vm_programs.proofs.vmsweep.running.write_form.Goals as goal

pub returns-in-Table-clause-done : goal.returns-in-Table-clause-done
returns-in-Table-clause-done g c =
    swept-as _ _ c.args.form c.args.lists.now c.args.text.now Table c.in-Table.is c.sweep.result c.sweep.ensures.done c.sweep.ensures.accepted

pub returns-in-Guests-clause-done : goal.returns-in-Guests-clause-done
returns-in-Guests-clause-done g c =
    swept-as _ _ c.args.form c.args.lists.now c.args.text.now Guests c.in-Guests.is c.sweep_guests.result c.sweep_guests.ensures.done
    c.sweep_guests.ensures.accepted

pub returns-in-Drawing-clause-done : goal.returns-in-Drawing-clause-done
returns-in-Drawing-clause-done g c =
    swept-as _ _ c.args.form c.args.lists.now c.args.text.now Drawing c.in-Drawing.is c.draw_sweep.result c.draw_sweep.ensures.done
    c.draw_sweep.ensures.accepted
