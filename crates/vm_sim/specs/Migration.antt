-- A run by whole percents, which is how version 1 of a configuration says its tax and its percents.
use Rattle.std.specs.Prelude.{ℕ, List}
use Rattle.vm_config.specs.declared.config.Config.{Config}
use Rattle.vm_config.specs.Migration.{in_hundredths}
use Rattle.vm_host.specs.World.{World}
use Rattle.vm_reclaim.specs.Policy.{policy_by_percents}
use Rattle.vm_runs.specs.Course.{host_after}
use Rattle.vm_sim.specs.Course.{course_by}
use Rattle.vm_sim.specs.Report.{report_by}

-- the report of a configuration in whole percents
abbrev pub report_by_percents : Config → List ℕ
report_by_percents c = report_by (policy_by_percents c.machine) c

-- the host of a configuration in whole percents after so many epochs
abbrev pub world_by_percents : Config → ℕ → World
world_by_percents c k = host_after (course_by (policy_by_percents c.machine) c) k

-- the host whose machine is set up in hundredths
abbrev pub converted : World → World
converted w = record w { machine = in_hundredths w.machine }
