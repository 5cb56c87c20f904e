-- The numbers by which a host decides.
use Rattle.std.specs.Prelude.{ℕ}
use Rattle.vm_plan.specs.declared.thresholds.Thresholds.{Thresholds}
use Rattle.vm_plan.specs.Thresholds.{thresholds_of}
use Rattle.vm_tax.specs.Ratio.{Tax, percents, hundredths}
use Rattle.vm_domains.specs.Machine.{MachineConfig}

pub record Policy : Type 0 where
  -- the tax on idle memory (Waldspurger, OSDI 2002, section 5.2)
  pub tax : Tax
  -- how much memory is meant to be free (section 6.3)
  pub thresholds : Thresholds
  -- the most frames that a guest gives up by paging in a boundary
  pub page_rate : ℕ
  -- the most pages that move from guest to guest at a boundary (section 6.3)
  pub rebalance : ℕ

-- the policy of a machine that is set up in hundredths of a percent, as each host's is
abbrev pub policy_of : MachineConfig → Policy
policy_of m = record {
  tax = hundredths m.tax;
  thresholds = thresholds_of 10000 m.frames m.percent;
  page_rate = m.page_rate;
  rebalance = m.rebalance;
}

-- the policy of a machine that is set up in whole percents
abbrev pub policy_by_percents : MachineConfig → Policy
policy_by_percents m = record {
  tax = percents m.tax;
  thresholds = thresholds_of 100 m.frames m.percent;
  page_rate = m.page_rate;
  rebalance = m.rebalance;
}
