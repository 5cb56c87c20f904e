use Rattle.vm_import.proofs.SoundLemmas.{covers_absent, covers_found}
use Rattle.vm_import.proofs.working_set.WorkingSet.covers.Goals as goal

pub returns-in-Some-clause-covered : goal.returns-in-Some-clause-covered
returns-in-Some-clause-covered c =
    covers_found _ _ _ c.self.inside.read c.self.inside.written c.args.self.now c.args.touch.now.page c.in-Some.rank c.args.touch.now.writes c.index.result.now c.covers.result
    c.self.view_is c.self.invariant c.in-Some.ensures.index c.in-Some.ensures.within c.index.ensures c.covers.ensures

pub returns-in-None-clause-covered : goal.returns-in-None-clause-covered
returns-in-None-clause-covered c =
    covers_absent _ _ _ c.self.inside.read c.self.inside.written c.args.self.now c.args.touch.now.page c.args.touch.now.writes c.self.view_is c.self.invariant c.in-None.ensures.index
