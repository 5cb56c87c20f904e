use Rattle.std.proofs.Common.{◌∙◌}
use Rattle.vm_sim.proofs.SteppingLemmas.{next_run}
use Rattle.vm_sim.specs.Stepping.{RunState}
use Rattle.vm_sim.proofs.stepping.SteppedRun.epoch.Goals as goal

pub returns-clause-next : goal.returns-clause-next
returns-clause-next g c =
    let inside = c.self.inside in
    let old : RunState = record { host = inside.host; agenda = inside.calendar.agenda; epochs = inside.calendar.epochs; done = inside.done } in
    λ config k is. next_run config k old c.epoch.new.self (c.self.view_is ∙ is) c.in_ok-epoch.ensures.done
