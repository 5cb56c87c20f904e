-- The exit statuses of a program that runs a configuration.
use Rattle.std.specs.Prelude.{◌≡◌, ◌⊎◌, ℕ, List, Option, Err}
use Rattle.std.specs.Io.KnownBytes.{Keeps}
use Rattle.vm_config.specs.declared.config.Config.{Config as Configuration}
use Rattle.vm_config.specs.declared.error.ConfigError.{ConfigError}
use Rattle.vm_config.specs.Reading.{config_of}
use Rattle.vm_sim.specs.declared.run_error.RunError.{RunError}
use Rattle.vm_sim.specs.declared.run_error.RunError.TheVariants.{Config, Read, Write, Memory, Workers}
use Rattle.vm_sim.specs.Run.{RunsConfig, TakesAll}

-- the status of a run that stopped
abbrev pub status_of : RunError → ℕ
status_of (Config fault) = 1
status_of Workers = 2
status_of Read = 3
status_of Write = 3
status_of Memory = 3

-- all that the reader had was taken, and it means no configuration
abbrev pub IsRefused : Option (List ℕ) → Option (List ℕ) → Type 0
IsRefused old new = TakesAll old new (λ input. (fault : ConfigError) × (config_of input ≡ Err fault))

-- of the configuration that was read a front of what it gives was written, or nothing
abbrev pub StopsWith : (read_old read_new written_old written_new : Option (List ℕ)) → (WritesFront : Configuration → Type 0) → Type 0
StopsWith read_old read_new written_old written_new WritesFront =
    RunsConfig read_old read_new WritesFront ⊎ Keeps written_old written_new
