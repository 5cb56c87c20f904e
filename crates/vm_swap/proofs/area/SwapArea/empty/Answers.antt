use Rattle.std.proofs.Common.{refl}
use Rattle.std.specs.FinMap.{empty}
use Rattle.vm_swap.proofs.Merged.{merged-empty}
use Rattle.vm_swap.proofs.Parted.{parted_empty}
use Rattle.vm_swap.proofs.area.SwapArea.empty.Goals as goal

pub invariant_of-self : goal.invariant_of-self
invariant_of-self c =
    let kept = c.self.invariant in
    rw (c.empty.ensures, c.empty-2.ensures)
    (parted_empty c.self.inside.capacity (record c.self.inside.whole { values = empty }) (record c.self.inside.few { values = empty }) refl refl kept.small kept.whole_room kept.few_room)

pub returns : goal.returns
returns c =
    rw (← c.self.view_is, c.empty.ensures, c.empty-2.ensures) (λ i. record { pages = merged-empty empty i; capacity = c.self.inside.capacity })
