use Rattle.std.proofs.Common.{◌∙◌, sym, ap, subst}
use Rattle.vm_pool.specs.declared.slot.Slot.TheVariants.{Running}
use Rattle.vm_pool.specs.Slots.{slot_run}
use Rattle.vm_pool.specs.Turns.{IsReady, MayRun}
use Rattle.vm_pool.proofs.SlotLemmas.{sits-in}
use Rattle.vm_pool.proofs.TurnLemmas.{stays}
use Rattle.vm_pool.proofs.slot.SlotWork.run.Goals as goal

pub run_epoch-requires : goal.run_epoch-requires
run_epoch-requires c =
    let may : IsReady c.guest_mut.result.now = subst MayRun (sits-in c.args.self.now c.in-Running.seated c.guest_mut.result.now c.in-Running.is c.guest_mut.ensures.value) c.requires in
    record { prepared = may.prepared; nothing = may.nothing }

pub returns-in-Running : goal.returns-in-Running
returns-in-Running c = ap Running c.run_epoch.ensures ∙ sym (ap slot_run (sits-in c.args.self.now c.in-Running.seated c.guest_mut.result.now c.in-Running.is c.guest_mut.ensures.value))

pub returns-in_default : goal.returns-in_default
returns-in_default c = stays c.args.self.now c.in_default.not-Running
