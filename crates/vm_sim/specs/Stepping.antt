-- A run that goes on by one epoch at a time.
use Rattle.std.specs.Prelude.{ℕ}
use Rattle.vm_config.specs.declared.config.Config.{Config}
use Rattle.vm_host.specs.World.{World}
use Rattle.vm_sim.specs.declared.agenda.Agenda.{Agenda}
use Rattle.vm_sim.specs.Course.{agenda_of, ready_world, world_after}

pub record RunState : Type 0 where
  -- the host after the epochs that are done, or after the boundary that follows them
  pub host : World
  -- what is asked of it
  pub agenda : Agenda
  -- how many epochs the run has
  pub epochs : ℕ
  -- how many are done
  pub done : ℕ

-- the run of a configuration after so many epochs
abbrev pub run_after : Config → ℕ → RunState
run_after c k = record { host = world_after c k; agenda = agenda_of c; epochs = c.epochs; done = k }

-- the same once the boundary before the next epoch is done
abbrev pub run_ready : Config → ℕ → RunState
run_ready c k = record { host = ready_world c k; agenda = agenda_of c; epochs = c.epochs; done = k }
