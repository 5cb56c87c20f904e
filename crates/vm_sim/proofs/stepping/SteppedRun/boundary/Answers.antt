use Rattle.std.proofs.Common.{◌∙◌}
use Rattle.vm_sim.proofs.SteppingLemmas.{ready_run, told_run}
use Rattle.vm_sim.specs.Stepping.{RunState}
use Rattle.vm_sim.proofs.stepping.SteppedRun.boundary.Goals as goal

pub returns-clause-made : goal.returns-clause-made
returns-clause-made c =
    let inside = c.self.inside in
    let old : RunState = record { host = inside.host; agenda = inside.calendar.agenda; epochs = inside.calendar.epochs; done = inside.done } in
    λ config k is. ready_run config k old c.boundary_before.new.host (c.self.view_is ∙ is) c.in_ok-told.ensures.host

pub returns-clause-told : goal.returns-clause-told
returns-clause-told c =
    let inside = c.self.inside in
    let old : RunState = record { host = inside.host; agenda = inside.calendar.agenda; epochs = inside.calendar.epochs; done = inside.done } in
    λ config k is. told_run config k old c.in_ok-told.told (c.self.view_is ∙ is) c.in_ok-told.ensures.told
