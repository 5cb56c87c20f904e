use Rattle.vm_swap.proofs.Merged.{merged-remove}
use Rattle.vm_swap.proofs.Parted.{parted_without}
use Rattle.vm_swap.proofs.area.SwapArea.load.Goals as goal

pub invariant_of-self : goal.invariant_of-self
invariant_of-self c =
    rw (c.bring_in.ensures.whole, c.bring_in.ensures.few) (parted_without c.self.inside.capacity c.self.inside.whole c.self.inside.few c.args.page c.self.invariant)

pub returns-clause-area : goal.returns-clause-area
returns-clause-area c =
    let pages = merged-remove c.self.inside.whole.values c.self.inside.few.values c.args.page in
    rw (← c.self.view_is, c.bring_in.ensures.whole, c.bring_in.ensures.few) (λ i. record { pages = pages i; capacity = c.self.inside.capacity })
