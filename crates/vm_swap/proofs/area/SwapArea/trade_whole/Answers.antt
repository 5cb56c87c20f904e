use Rattle.vm_swap.proofs.Absent.{get-remove-absent}
use Rattle.vm_swap.proofs.area.SwapArea.trade_whole.Goals as goal

pub put_whole-requires-clause-absent : goal.put_whole-requires-clause-absent
put_whole-requires-clause-absent c =
    rw (c.load.ensures.area, c.if-not-trade_in_place.ensures.same) (get-remove-absent c.args.self.now.pages c.args.page c.args.other c.requires.absent)
