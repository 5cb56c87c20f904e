-- The ranges of what stands in the root of a policy.
use Rattle.std.specs.Prelude.{◌+◌, ◌*◌, ◌<◌, ◌≤◌}
use Rattle.vm_samples.specs.declared.policy_text.Fields.{Fields}
use Rattle.vm_samples.specs.declared.root.Amounts.{Amounts}
use Rattle.vm_samples.specs.declared.root.Scale.{Scale}
use Rattle.vm_samples.specs.declared.root.Shares.{Shares}
use Rattle.vm_samples.specs.declared.root.Wants.{Wants}
use Rattle.vm_samples.specs.Policies.{AreFalling}

pub record IsScale (s : Scale) : Type 0 where
  pub unit_from : 4 ≤ s.unit
  pub unit_to : s.unit ≤ 1048576
  pub some_memory : 1 ≤ s.memory
  pub few_memory : s.memory ≤ 262144

pub record AreAmounts (a : Amounts) : Type 0 where
  pub small_overhead : a.overhead ≤ 1024
  pub some_rate : 1 ≤ a.rate
  pub small_rate : a.rate ≤ 262144
  pub few_moves : a.rebalance ≤ 262144

pub record AreShares (s : Shares) : Type 0 where
  pub part_taxed : s.tax ≤ 9999
  pub falling : AreFalling 10000 s.percents

pub record AreWants (w : Wants) : Type 0 where
  pub small_headroom : w.headroom ≤ 1000
  pub part_cached : w.cache ≤ 100
  pub settles : (100 + w.headroom) * w.cache < 10000
  pub not_all : w.most ≤ 99
  pub some_patience : 1 ≤ w.patience
  pub small_patience : w.patience ≤ 10000

pub record AreFields (f : Fields) : Type 0 where
  pub scale : IsScale f.scale
  pub amounts : AreAmounts f.amounts
  pub shares : AreShares f.shares
  pub wants : AreWants f.wants
