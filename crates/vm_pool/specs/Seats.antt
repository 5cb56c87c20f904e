-- What lies in a seat, and what a stopped guest or a running one shows there.
use Rattle.std.specs.Prelude.{⊤, false, []}
use Rattle.std.specs.FinSet as set
use Rattle.vm_guest.specs.Config.{GuestConfig}
use Rattle.vm_guest.specs.Start.{started}
use Rattle.vm_guest.specs.State.{GuestState}
use Rattle.vm_pool.specs.declared.seat.Place.{Place}
use Rattle.vm_pool.specs.declared.seat.Place.TheVariants.{Free, Idling, Taken}

-- no configuration: a guest is away only while it starts, stops or runs its epoch
abbrev pub no_config : GuestConfig
no_config = record {
  size = 0;
  min = 0;
  shares = 0;
  samples = 0;
  period = 0;
  rate = 0;
  quantum = 0;
  seed = 0;
  stream = 0;
  tell = false;
  own_driver = false;
  page = 0;
  trace = [];
}

-- what a seat shows as its guest where none runs in it, which is so of no `Seated`
abbrev pub nobody : GuestState
nobody = record {
  guest = started no_config;
  capacity = 0;
  frames = set.empty;
  prepared = false;
}

abbrev pub IsFree : Place → Type 0
IsFree Free = ⊤
IsFree (Idling config) = ⊥
IsFree (Taken s) = ⊥

-- a stopped guest lies there
abbrev pub IsIdling : Place → Type 0
IsIdling Free = ⊥
IsIdling (Idling config) = ⊤
IsIdling (Taken s) = ⊥

-- a guest runs there
abbrev pub IsTaken : Place → Type 0
IsTaken Free = ⊥
IsTaken (Idling config) = ⊥
IsTaken (Taken s) = ⊤

-- the stopped guest's configuration
abbrev pub config_there : Place → GuestConfig
config_there Free = no_config
config_there (Idling config) = config
config_there (Taken s) = no_config

-- the running guest
abbrev pub guest_there : Place → GuestState
guest_there Free = nobody
guest_there (Idling config) = nobody
guest_there (Taken s) = s
