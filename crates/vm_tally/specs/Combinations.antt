-- The values of a run, and the configurations that they make.
use Rattle.std.specs.Prelude.{ℕ}
use Rattle.vm_config.specs.declared.config.Config.{Config}
use Rattle.vm_config.specs.declared.settings.Setting.{Setting}
use Rattle.vm_config.specs.declared.settings.Setting.TheVariants.{Frames, Swap, Tax, PageRate, Rebalance}
use Rattle.vm_config.specs.Settings.{with_setting, IsInRange}

-- values for the five settings of a machine
pub record Values : Type 0 where
  pub frames : ℕ
  pub swap : ℕ
  -- in hundredths of a percent
  pub tax : ℕ
  pub page_rate : ℕ
  pub rebalance : ℕ

-- each is one that its setting may have
pub record AreInRange (v : Values) : Type 0 where
  pub frames : IsInRange Frames v.frames
  pub swap : IsInRange Swap v.swap
  pub tax : IsInRange Tax v.tax
  pub page_rate : IsInRange PageRate v.page_rate
  pub rebalance : IsInRange Rebalance v.rebalance

-- a configuration with these values in the place of its own
abbrev pub configured : Values → Config → Config
configured v c =
    with_setting Rebalance v.rebalance
    (with_setting PageRate v.page_rate (with_setting Tax v.tax (with_setting Swap v.swap (with_setting Frames v.frames c))))

-- the values that a configuration has
abbrev pub values_of : Config → Values
values_of c = record {
  frames = c.machine.frames;
  swap = c.machine.swap;
  tax = c.machine.tax;
  page_rate = c.machine.page_rate;
  rebalance = c.machine.rebalance;
}

-- the values with another one for a setting
abbrev pub with_value : Setting → ℕ → Values → Values
with_value Frames n v = record v { frames = n }
with_value Swap n v = record v { swap = n }
with_value Tax n v = record v { tax = n }
with_value PageRate n v = record v { page_rate = n }
with_value Rebalance n v = record v { rebalance = n }
