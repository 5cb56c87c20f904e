use Rattle.std.proofs.Common.{ℕ, List, sym, ap, ◌∙◌}
use Rattle.std.specs.FinMap.{insert, remove}
use Rattle.vm_swap.specs.Area.{Area}
use Rattle.vm_swap.proofs.area.SwapArea.trade.Goals as goal

pub trade_few-requires-clause-in_range : goal.trade_few-requires-clause-in_range
trade_few-requires-clause-in_range c = c.requires.in_range

pub trade_few-requires-clause-absent : goal.trade_few-requires-clause-absent
trade_few-requires-clause-absent c = c.requires.absent

pub trade_few-requires-clause-room : goal.trade_few-requires-clause-room
trade_few-requires-clause-room c = c.requires.room

pub returns-in-Some-clause-area : goal.returns-in-Some-clause-area
returns-in-Some-clause-area c =
    let area : Area = c.args.self.now in
    c.trade_few.ensures.area
    ∙ ap (λ (bytes : List ℕ). record area { pages = insert (remove area.pages c.args.page) c.args.other bytes }) (sym c.in-Some.ensures.some)

pub returns-in-Some-clause-frame : goal.returns-in-Some-clause-frame
returns-in-Some-clause-frame c = rw c.in-Some.ensures.taken at c.trade_few.ensures.frame
