-- How a log is read, and what is made of it, as plain data.
use Rattle.std.specs.Prelude.{ℕ, Bool, List, Option, string_bytes}
use Rattle.vm_import.specs.declared.settings.ImportSettings.{ImportSettings}

pub record Settings : Type 0 where
  -- the guest's name
  pub name : List ℕ
  -- its minimum in pages, where it is said
  pub min : Option ℕ
  -- accesses in an interval
  pub interval : ℕ
  -- steps in an epoch
  pub quantum : ℕ
  -- accesses that are left out
  pub skip : ℕ
  -- the most steps
  pub steps : ℕ
  -- whether an instruction that is fetched touches its page
  pub has_code : Bool

abbrev pub settings_of : ImportSettings → Settings
settings_of settings = record {
  name = string_bytes settings.name;
  min = settings.min;
  interval = settings.interval;
  quantum = settings.quantum;
  skip = settings.skip;
  steps = settings.steps;
  has_code = settings.has_code;
}
