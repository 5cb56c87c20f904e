use Rattle.vm_swap.proofs.Kept.{kept_empty, no_values}
use Rattle.vm_swap.proofs.table.Table.empty.Goals as goal

pub invariant_of-self : goal.invariant_of-self
invariant_of-self g c = kept_empty _ _ c.clear.ensures.items c.clear-2.ensures

pub returns : goal.returns
returns g c =
    let values = no_values c.clear.new.self.items c.clear.ensures.items in
    rw (← c.self.view_is) (λ i. record { values = values i; room = c.clear.ensures.capacity i })
