use Rattle.std.proofs.Common.{◌∙◌, [], ◌∷◌, ◌++◌, ap}
use Rattle.vm_pool.specs.declared.slot.Slot.{Slot}
use Rattle.vm_pool.specs.Slots.{is_away}
use Rattle.vm_pool.specs.Turns.{left_slot, running_in}
use Rattle.vm_pool.proofs.round.leave.Goals as goal

pub fill-requires : goal.fill-requires
fill-requires c = ap is_away c.replace.ensures.after

pub returns-in-Running-clause-slot : goal.returns-in-Running-clause-slot
returns-in-Running-clause-slot c = c.replace.ensures.after ∙ ap left_slot c.in-Running.ensures.value

pub returns-in-Running-clause-turns : goal.returns-in-Running-clause-turns
returns-in-Running-clause-turns c =
    c.push_reserved.ensures.items ∙ ap (λ (s : Slot). c.args.turns.now.items ++ running_in (s ∷ [])) c.in-Running.ensures.value

pub returns-in-Stopped-clause-slot : goal.returns-in-Stopped-clause-slot
returns-in-Stopped-clause-slot c = c.fill.ensures ∙ ap left_slot c.in-Stopped.ensures.value
