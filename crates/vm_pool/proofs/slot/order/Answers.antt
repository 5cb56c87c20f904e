use Rattle.std.proofs.Common.{◌≡◌, subst, sym, ap}
use Rattle.vm_guest.specs.Boundary.{ordered}
use Rattle.vm_pool.specs.declared.slot.Slot.{Slot}
use Rattle.vm_pool.specs.declared.slot.Slot.TheVariants.{Running}
use Rattle.vm_pool.specs.Slots.{slot_changed}
use Rattle.vm_pool.proofs.SlotLemmas.{sits-in}
use Rattle.vm_pool.proofs.slot.order.Goals as goal

pub returns-in-Running : goal.returns-in-Running
returns-in-Running c =
    subst (λ (s : Slot). Running c.order.new.self ≡ slot_changed (λ g. ordered g c.args.blocked) s) (sym (sits-in c.args.slot.now c.in-Running.seated c.guest_mut.result.now c.in-Running.is c.guest_mut.ensures.value)) (ap Running c.order.ensures)
