use Rattle.std.proofs.Common.{◌≡◌, subst, sym, ap}
use Rattle.vm_guest.specs.Boundary.{lowered}
use Rattle.vm_pool.specs.declared.slot.Slot.{Slot}
use Rattle.vm_pool.specs.declared.slot.Slot.TheVariants.{Running}
use Rattle.vm_pool.specs.Slots.{slot_changed}
use Rattle.vm_pool.proofs.SlotLemmas.{sits-in}
use Rattle.vm_pool.proofs.slot.revoke.Goals as goal

pub returns-in-Running : goal.returns-in-Running
returns-in-Running c =
    subst (λ (s : Slot). Running c.lower_target.new.self ≡ slot_changed (lowered c.args.count) s) (sym (sits-in c.args.slot.now c.in-Running.seated c.guest_mut.result.now c.in-Running.is c.guest_mut.ensures.value)) (ap Running c.lower_target.ensures)
