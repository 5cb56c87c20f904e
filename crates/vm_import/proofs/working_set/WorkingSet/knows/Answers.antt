use Rattle.std.proofs.Common.{◌∙◌, ◌%◌, sym, true, false}
use Rattle.vm_import.proofs.SoundLemmas.{known}
use Rattle.vm_import.proofs.working_set.WorkingSet.knows.Goals as goal

pub returns-then-writes-clause-covered : goal.returns-then-writes-clause-covered
returns-then-writes-clause-covered c = λ h.
    known c.args.effect _ _ c.args.self.now true c.self.inside.written (c.args.page % 256) c.args.page _ c.self.view_is c.self.invariant.written_are c.has.ensures c.requires (sym c.writes.ensures ∙ c.if-writes.true) h

pub returns-else-writes-clause-covered : goal.returns-else-writes-clause-covered
returns-else-writes-clause-covered c = λ h.
    known c.args.effect _ _ c.args.self.now false c.self.inside.read (c.args.page % 256) c.args.page _ c.self.view_is c.self.invariant.read_are c.has-else-writes.ensures c.requires (sym c.writes.ensures ∙ c.if-writes.false) h
