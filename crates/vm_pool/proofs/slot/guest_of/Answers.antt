use Rattle.std.proofs.Common.{sym, ap}
use Rattle.vm_pool.specs.Slots.{guest_in}
use Rattle.vm_pool.proofs.SlotLemmas.{sits-in}
use Rattle.vm_pool.proofs.slot.guest_of.Goals as goal

pub returns-in-Away : goal.returns-in-Away
returns-in-Away c = sym (ap guest_in c.in-Away.is)

pub returns-in-Running : goal.returns-in-Running
returns-in-Running c = sym (ap guest_in (sits-in c.args.slot.now c.in-Running.seated c.guest.result.now c.in-Running.is c.guest.ensures))

pub returns-in-Stopped : goal.returns-in-Stopped
returns-in-Stopped c = sym (ap guest_in c.in-Stopped.is)
