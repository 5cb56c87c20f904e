-- What a host is, as plain data: no frame is in it, and no number of one.
use Rattle.std.specs.Prelude.{◌≡◌, ℕ, List, Option, slice_get}
use Rattle.vm_guest.specs.Config.{GuestConfig}
use Rattle.vm_guest.specs.Record.{GuestRecord}
use Rattle.vm_plan.specs.declared.state.State.{State}
use Rattle.vm_plan.specs.declared.state.State.TheVariants.{High}
use Rattle.vm_host.specs.declared.phase.Phase.{Phase}
use Rattle.vm_host.specs.declared.phase.Phase.TheVariants.{Waiting, Failed}
use Rattle.vm_domains.specs.Domains.{Domain, names_of, configs_of}
use Rattle.vm_pool.specs.Guests.{guest_in}
use Rattle.vm_pool.specs.Pool.{AddUpTo, PoolView, first_pool}
use Rattle.vm_domains.specs.Machine.{MachineConfig}
use Rattle.vm_sound.specs.Sound.{HasSameSetup}

pub record World : Type 0 where
  pub machine : MachineConfig
  -- the names of the domains; a position is a place in this list
  pub names : List (List ℕ)
  -- the frames, and the guests that run
  pub pool : PoolView
  -- how much memory is free, in four degrees (Waldspurger, OSDI 2002, section 6.3)
  pub state : State
  pub phase : Phase

-- a host before its first boundary: no guest runs, all frames are free, and the state is high
abbrev pub first_world : MachineConfig → List Domain → World
first_world machine domains = record {
  machine = machine;
  names = names_of domains;
  pool = first_pool machine.frames machine.overhead (configs_of domains);
  state = High;
  phase = Waiting;
}

abbrev pub with_pool : World → PoolView → World
with_pool w pool = record w { pool = pool }

abbrev pub with_phase : World → Phase → World
with_phase w phase = record w { phase = phase }

-- the guest at a position, if one runs there
abbrev pub guest_at : World → ℕ → Option GuestRecord
guest_at w position = guest_in w.pool.guests position

-- how the domain at a position is set up, if there is one
abbrev pub config_at : World → ℕ → Option GuestConfig
config_at w position = slice_get w.pool.configs position

-- frames free, held by guests and set aside for them add up to the machine
abbrev pub Conserves : World → Type 0
Conserves w = AddUpTo w.machine.frames w.pool

-- its machine and its domains are the same
pub record KeepsDomains (old new : World) : Type 0 where
  pub machine : new.machine ≡ old.machine
  pub names : new.names ≡ old.names
  pub setup : HasSameSetup old.pool new.pool

-- the host failed in a boundary: its machine and its domains are the same
pub record FailsFrom (old new : World) : Type 0 where
  pub machine : new.machine ≡ old.machine
  pub names : new.names ≡ old.names
  pub configs : new.pool.configs ≡ old.pool.configs
  pub phase : new.phase ≡ Failed
