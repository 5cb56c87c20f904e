use Rattle.std.proofs.Common.{rules}
use Rattle.vm_programs.proofs.lemmas.vmsweep.Guests.{bad-read, more-read}
use Rattle.vm_programs.proofs.vmsweep.guests.read_each.Goals as goal

pub returns-in-Err-clause-fault : goal.returns-in-Err-clause-fault
returns-in-Err-clause-fault c =
    bad-read c.args.key c.args.texts.now c.loop-text.text-index _ c.loop-text-test.true c.loop-text.lists.items c.in-Err.fault _
    c.in-Err.ensures.fault c.loop-text.invariant

pub loop-text-preserved : goal.loop-text-preserved
loop-text-preserved c =
    more-read c.args.key c.args.texts.now c.loop-text.text-index _ c.loop-text-test.true c.loop-text.lists.items _ c.in-Ok.list _
    c.in-Ok.ensures.list (search rules) c.loop-text.invariant
