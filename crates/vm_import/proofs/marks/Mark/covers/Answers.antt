use Rattle.std.proofs.Common.{sym, ap}
use Rattle.vm_import.specs.Marks.{mark_covers}
use Rattle.vm_import.specs.declared.marks.Mark.{Mark}
use Rattle.vm_import.proofs.marks.Mark.covers.Goals as goal

pub returns-in-Untouched : goal.returns-in-Untouched
returns-in-Untouched c = sym (ap (λ (m : Mark). mark_covers m c.args.writes) c.in-Untouched.is)

pub returns-in-Written : goal.returns-in-Written
returns-in-Written c = sym (ap (λ (m : Mark). mark_covers m c.args.writes) c.in-Written.is)
