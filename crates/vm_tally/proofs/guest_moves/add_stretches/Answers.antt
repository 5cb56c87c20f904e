use Rattle.std.proofs.Common.{arith}
use Rattle.vm_tally.specs.GuestTally.{entries_in}
use Rattle.vm_tally.proofs.ColumnLemmas.{list-end, list-more}
use Rattle.vm_tally.proofs.guest_moves.add_stretches.Goals as goal

pub loop-stretch-preserved : goal.loop-stretch-preserved
loop-stretch-preserved c =
    list-more entries_in c.args.stretches.now c.loop-stretch.stretch-index (record { position = 0; count = 0 }) c.loop-stretch.column c.add.new.self _
    c.loop-stretch-test.true c.add.ensures c.loop-stretch.invariant

pub returns : goal.returns
returns c = list-end entries_in c.args.stretches.now c.loop-stretch.stretch-index c.loop-stretch.column _ (omega arith) c.loop-stretch.invariant
