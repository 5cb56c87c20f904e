-- What the text of a host log means.
use Rattle.std.specs.Prelude.{◌≡◌, ℕ, ◌≤◌, List, length, Ok}
use Rattle.vm_config.specs.Reading.{config_of}
use Rattle.vm_samples.specs.Policies.{PolicyView}
use Rattle.vm_log.specs.HostOf.{host_of}
use Rattle.vm_log.specs.Streams.{taken_in, text_in}
use Rattle.vm_laws.specs.Recorded.{config_of_host}

-- it means the configuration of the host that is recorded in the log, and isn't too long
pub record IsLogRead (every : ℕ) (policy : PolicyView) (bytes : List ℕ) : Type 0 where
  pub read : config_of (text_in every policy bytes) ≡ Ok (config_of_host (host_of policy every (taken_in every policy bytes).samples))
  pub short : length (text_in every policy bytes) ≤ 16777216
