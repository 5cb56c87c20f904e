-- What is true of each configuration that was read.
use Rattle.std.specs.Prelude.{◌≡◌, ◌≤◌, length}
use Rattle.vm_domains.specs.Limits.{AreWithinLimits}
use Rattle.vm_domains.specs.Machine.{IsMachine}
use Rattle.vm_config.specs.declared.config.Config.{Config}

pub record IsConfig (c : Config) : Type 0 where
  pub machine : IsMachine c.machine
  pub domains : AreWithinLimits c.domains
  pub few : length c.domains ≤ 256
  -- one truth value a domain
  pub autostart : length c.autostart ≡ length c.domains
