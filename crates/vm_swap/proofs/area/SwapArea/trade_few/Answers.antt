use Rattle.vm_swap.proofs.Absent.{get-remove-absent}
use Rattle.vm_swap.proofs.area.SwapArea.trade_few.Goals as goal

pub put_few-requires-clause-absent : goal.put_few-requires-clause-absent
put_few-requires-clause-absent c =
    rw (c.load.ensures.area, c.in-Some.ensures.same) (get-remove-absent c.args.self.now.pages c.args.page c.args.other c.requires.absent)
