use Rattle.std.proofs.Common.{ap}
use Rattle.vm_domains.specs.Machine.{MachineConfig}
use Rattle.vm_tally.specs.Combinations.{Values}
use Rattle.vm_tally.proofs.combination.Combination.of.Goals as goal

-- src/combination.rt:47:5
pub returns : goal.returns
returns c =
    ap {B = Values} (λ (m : MachineConfig). record {
      frames = m.frames;
      swap = m.swap;
      tax = m.tax;
      page_rate = m.page_rate;
      rebalance = m.rebalance;
    }) c.machine.view_is
