use Rattle.std.proofs.Common.{rules, ◌≡◌, false, is_some, sym}
use Rattle.std.specs.FinMap.{get}
use Rattle.vm_swap.proofs.Absent.{get-absent, remove-absent}
use Rattle.vm_swap.proofs.table.Table.discard.Goals as goal

pub returns-else-found-clause-removed : goal.returns-else-found-clause-removed
returns-else-found-clause-removed g c =
    let table = c.args.self.now in
    let none : is_some (get table.values c.args.page) ≡ false = search rules in
    λ i. record { values = sym (remove-absent table.values c.args.page (get-absent table.values c.args.page none)) i; room = table.room }

pub returns-then-found-clause-removed : goal.returns-then-found-clause-removed
returns-then-found-clause-removed g c = assumption
