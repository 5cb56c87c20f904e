-- The numbers of a machine that may be set.
use Rattle.std.specs.Prelude.{ℕ, ◌≤◌}
use Rattle.vm_config.specs.declared.config.Config.{Config}
use Rattle.vm_config.specs.declared.settings.Setting.{Setting}
use Rattle.vm_config.specs.declared.settings.Setting.TheVariants.{Frames, Swap, Tax, PageRate, Rebalance}

-- the values that a setting may have
abbrev pub least_of : Setting → ℕ
least_of Frames = 1
least_of Swap = 0
least_of Tax = 0
least_of PageRate = 1
least_of Rebalance = 0

abbrev pub greatest_of : Setting → ℕ
greatest_of Frames = 262144
greatest_of Swap = 67108864
greatest_of Tax = 9999
greatest_of PageRate = 256
greatest_of Rebalance = 262144

pub record IsInRange (setting : Setting) (value : ℕ) : Type 0 where
  pub least : least_of setting ≤ value
  pub greatest : value ≤ greatest_of setting

-- the value that stands in a configuration
abbrev pub setting_of : Setting → Config → ℕ
setting_of Frames c = c.machine.frames
setting_of Swap c = c.machine.swap
setting_of Tax c = c.machine.tax
setting_of PageRate c = c.machine.page_rate
setting_of Rebalance c = c.machine.rebalance

-- the configuration with another value, and all else as it was
abbrev pub with_setting : Setting → ℕ → Config → Config
with_setting Frames n c = record c { machine = record c.machine { frames = n } }
with_setting Swap n c = record c { machine = record c.machine { swap = n } }
with_setting Tax n c = record c { machine = record c.machine { tax = n } }
with_setting PageRate n c = record c { machine = record c.machine { page_rate = n } }
with_setting Rebalance n c = record c { machine = record c.machine { rebalance = n } }
