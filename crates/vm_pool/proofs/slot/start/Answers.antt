use Rattle.std.proofs.Common.{◌∙◌, ap, subst, sym}
use Rattle.std.specs.Prelude.{Some}
use Rattle.vm_guest.specs.Start.{started}
use Rattle.vm_pool.specs.declared.slot.Slot.{Slot}
use Rattle.vm_pool.specs.declared.slot.Slot.TheVariants.{Stopped, Running}
use Rattle.vm_pool.specs.Moves.{Moves}
use Rattle.vm_pool.specs.Slots.{config_in}
use Rattle.vm_pool.proofs.MoveLemmas.{moves-started}
use Rattle.vm_pool.proofs.slot.start.Goals as goal

pub returns : goal.returns
returns c =
    let before = c.args.machine.now in
    let after = c.start_in-guest.new.machine in
    let guest = c.start_in-guest.ensures in
    let config = c.leave-spec.result.0 in
    let starts = moves-started config c.start_in-guest.result before after guest.«record» guest.capacity guest.frames guest.count in
    subst (λ (s : Slot). Moves (Some (started (config_in s))) s c.fill.new.slot before after) (ap Stopped c.leave-spec.ensures ∙ c.in-Stopped.ensures.value)
    (subst (λ (s : Slot). Moves (Some (started config)) (Stopped config) s before after) (sym (c.fill.ensures ∙ ap Running c.with_guest.ensures)) starts)
