use Rattle.std.proofs.Common.{refl}
use Rattle.vm_config.specs.declared.config.Config.{Config}
use Rattle.vm_config.specs.Migration.{in_hundredths}
use Rattle.vm_host.proofs.PolicyLemmas.{DecideAlike}
use Rattle.vm_reclaim.specs.Policy.{policy_by_percents, policy_of}
use Rattle.vm_sim.proofs.MigrationLemmas.{hosts-migrated, report-migrated}
use Rattle.vm_sim.proofs.RebalanceScaleLemmas.{rebalances-same}
use Rattle.vm_sim.proofs.law.law_migration.Goals as goal

pub returns : goal.returns
returns c =
    let scales = c.law_scales.ensures in
    let alike : (config : Config) → DecideAlike (policy_by_percents config.machine) (policy_of (in_hundredths config.machine)) = λ config. record {
      thresholds = scales.thresholds config.machine.frames config.machine.percent;
      page_rate = refl;
      revocations = scales.revocation_list config.machine.tax;
      grants = scales.grant_list config.machine.tax;
      rebalances = rebalances-same config.machine;
    } in
    record {
      hosts = λ config. hosts-migrated config (alike config);
      report = λ config. report-migrated config (alike config);
    }
