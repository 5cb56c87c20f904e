use Rattle.std.proofs.Common.{◌≤◌, ◌+◌, ◌%◌, arith}
use Rattle.vm_import.proofs.SoundLemmas.{recent_unchanged}
use Rattle.vm_import.proofs.working_set.WorkingSet.is_recent.Goals as goal

pub returns-then-is_within : goal.returns-then-is_within
returns-then-is_within c = λ h.
    let size = c.from.ensures in
    let fits = c.if-is_within.true in
    let inside : c.args.address % 4096 + c.args.size ≤ 4096 = omega arith in
    recent_unchanged c.args.effect c.args.self.now c.args.address c.args.size c.knows.ensures.within inside (c.knows.ensures.covered h)
