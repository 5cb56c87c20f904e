use Rattle.std.proofs.Common.{arith}
use Rattle.vm_tally.specs.GuestEntries.{given_up_by}
use Rattle.vm_tally.proofs.ColumnLemmas.{list-end, list-more}
use Rattle.vm_tally.proofs.guest_moves.add_frames.Goals as goal

pub loop-paged-preserved : goal.loop-paged-preserved
loop-paged-preserved c =
    list-more given_up_by c.args.paging.now c.loop-paged.paged-index (record { position = 0; count = 0 }) c.loop-paged.column c.add.new.self _
    c.loop-paged-test.true c.add.ensures c.loop-paged.invariant

pub returns : goal.returns
returns c = list-end given_up_by c.args.paging.now c.loop-paged.paged-index c.loop-paged.column _ (omega arith) c.loop-paged.invariant
