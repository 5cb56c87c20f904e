use Rattle.std.proofs.Common.{◌≡◌, ◌∙◌}
use Rattle.vm_config.specs.declared.config.Config.{Config}
use Rattle.vm_sim.proofs.SteppingLemmas.{back_after, back_ready, config_of_run}
use Rattle.vm_sim.specs.Stepping.{RunState}
use Rattle.vm_sim.proofs.stepping.SteppedRun.close_keeping.Goals as goal

pub returns-clause-back : goal.returns-clause-back
returns-clause-back c = λ config k is.
    let inside = c.self.inside in
    let run : RunState = record { host = inside.host; agenda = inside.calendar.agenda; epochs = inside.calendar.epochs; done = inside.done } in
    let made : Config = record {
      machine = c.machine-machine.result;
      epochs = c.epochs-epochs.result;
      domains = c.close_keeping-domains.result.0;
      autostart = c.into_agenda-autostart.result.autostart;
      commands = c.into_agenda-autostart.result.commands;
    } in
    let parts : made ≡ config_of_run run = λ i. record {
      machine = c.machine-machine.ensures i;
      epochs = c.epochs-epochs.ensures i;
      domains = c.close_keeping-domains.ensures i;
      autostart = (c.into_agenda-autostart.ensures i).autostart;
      commands = (c.into_agenda-autostart.ensures i).commands;
    } in
    parts ∙ back_after config k run (c.self.view_is ∙ is)

pub returns-clause-ready : goal.returns-clause-ready
returns-clause-ready c = λ config k is.
    let inside = c.self.inside in
    let run : RunState = record { host = inside.host; agenda = inside.calendar.agenda; epochs = inside.calendar.epochs; done = inside.done } in
    let made : Config = record {
      machine = c.machine-machine.result;
      epochs = c.epochs-epochs.result;
      domains = c.close_keeping-domains.result.0;
      autostart = c.into_agenda-autostart.result.autostart;
      commands = c.into_agenda-autostart.result.commands;
    } in
    let parts : made ≡ config_of_run run = λ i. record {
      machine = c.machine-machine.ensures i;
      epochs = c.epochs-epochs.ensures i;
      domains = c.close_keeping-domains.ensures i;
      autostart = (c.into_agenda-autostart.ensures i).autostart;
      commands = (c.into_agenda-autostart.ensures i).commands;
    } in
    parts ∙ back_ready config k run (c.self.view_is ∙ is)
