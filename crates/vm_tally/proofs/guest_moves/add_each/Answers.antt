use Rattle.std.proofs.Common.{arith}
use Rattle.vm_tally.specs.GuestEntries.{one_of}
use Rattle.vm_tally.proofs.ColumnLemmas.{list-end, list-more}
use Rattle.vm_tally.proofs.guest_moves.add_each.Goals as goal

pub loop-position-preserved : goal.loop-position-preserved
loop-position-preserved c =
    list-more one_of c.args.positions.now c.loop-position.position-index 0 c.loop-position.column c.add.new.self _ c.loop-position-test.true c.add.ensures
    c.loop-position.invariant

pub returns : goal.returns
returns c = list-end one_of c.args.positions.now c.loop-position.position-index c.loop-position.column _ (omega arith) c.loop-position.invariant
