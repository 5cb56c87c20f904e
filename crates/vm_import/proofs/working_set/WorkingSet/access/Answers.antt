use Rattle.std.proofs.Common.{sym}
use Rattle.vm_import.specs.Touches.{touches_of}
use Rattle.vm_import.proofs.SoundLemmas.{added_longer, on_err, on_ok}
use Rattle.vm_import.proofs.SetStepLemmas.{GoesOn-all}
use Rattle.vm_import.proofs.working_set.WorkingSet.access.Goals as goal

pub returns-then-is_recent-clause-ok : goal.returns-then-is_recent-clause-ok
returns-then-is_recent-clause-ok c = GoesOn-all c.args.self.now c.args.self.now (touches_of c.args.effect c.args.address c.args.size) (sym (c.is_recent.ensures c.if-is_recent.true))

pub returns-clause-ok : goal.returns-clause-ok
returns-clause-ok c = on_ok c.look_up.result _ _ (GoesOn-all c.args.self.now c.look_up.new.self (touches_of c.args.effect c.args.address c.args.size)) c.look_up.ensures.ok

pub returns-clause-err : goal.returns-clause-err
returns-clause-err c = on_err c.look_up.result _ _ (λ some. (some.0, GoesOn-all c.args.self.now c.look_up.new.self _ some.1)) c.look_up.ensures.err

pub returns-clause-pages : goal.returns-clause-pages
returns-clause-pages c = (added_longer c.look_up.result c.args.self.now c.look_up.new.self (touches_of c.args.effect c.args.address c.args.size) c.look_up.ensures.ok c.look_up.ensures.err).pages

pub returns-clause-kept : goal.returns-clause-kept
returns-clause-kept c = (added_longer c.look_up.result c.args.self.now c.look_up.new.self (touches_of c.args.effect c.args.address c.args.size) c.look_up.ensures.ok c.look_up.ensures.err).kept
