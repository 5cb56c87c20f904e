-- The guest at which the first fault of a configuration stands: the keys of the root and the guests before it are read.
use Rattle.std.specs.Prelude.{◌≡◌, ℕ, List, ◌∷◌, ◌++◌, length, Ok, Err, codes}
use Rattle.serde_json.specs.Data.{Data}
use Rattle.serde_json.specs.Find.{get}
use Rattle.vm_domains.specs.Machine.{MachineConfig}
use Rattle.vm_config.specs.declared.error.ConfigError.{ConfigError}
use Rattle.vm_config.specs.declared.guests.GuestList.{GuestList}
use Rattle.vm_config.specs.declared.version.Limits.{Limits}
use Rattle.vm_config.specs.Guests.{no_guests}
use Rattle.vm_config.specs.Keys.{number_or, objects_in}
use Rattle.vm_config.specs.Reading.{listed_in, guests_from, machine_in, root_in, version_in}
use Rattle.vm_config.specs.Versions.{limits_of}

-- of these objects the one of this number has the error, after guests that are read
pub record IsFirstFaulty (limits : Limits) (quantum page : ℕ) (objects : List Data) (number : ℕ) (error : ConfigError) : Type 0 where
  pub before : List Data
  pub object : Data
  pub after : List Data
  pub earlier : GuestList
  pub objects_are : objects ≡ before ++ object ∷ after
  pub number_is : number ≡ length before
  pub are_read : guests_from limits quantum page before no_guests ≡ Ok earlier
  pub is_refused : listed_in limits quantum page object earlier.domains ≡ Err error

-- the first fault of the text stands at the guest of this number
pub record StandsAtGuest (bytes : List ℕ) (number : ℕ) (error : ConfigError) : Type 0 where
  pub root : Data
  pub version : ℕ
  pub machine : MachineConfig
  pub quantum : ℕ
  pub objects : List Data
  pub root_is : root_in bytes ≡ Ok root
  pub version_is : version_in 3 root ≡ Ok version
  pub machine_is : machine_in (limits_of version) root ≡ Ok machine
  pub quantum_is : number_or (get (codes "quantum") root) 1 65536 100 ≡ Ok quantum
  pub objects_are : objects_in (limits_of version).guests (get (codes "guests") root) ≡ Ok objects
  pub first : IsFirstFaulty (limits_of version) quantum machine.page objects number error
