use Rattle.std.proofs.Common.{◌≡◌}
use Rattle.vm_config.specs.declared.config.Config.{Config}
use Rattle.vm_sim.specs.Stepping.{run_after}
use Rattle.vm_series.specs.Rows.{rows_before}
use Rattle.vm_series.proofs.collect.run_all.Given as goal

-- the run of a configuration has gone on by the epochs so far, and each has its row
abbrev pub invariant-loop-epoch : goal.invariant-loop-epoch
invariant-loop-epoch g l = record {
  done : l.run.done ≡ l.epoch;
  epochs : l.run.epochs ≡ l.fn.run.epochs;
  run : (config : Config) → l.fn.run ≡ run_after config 0 → l.run ≡ run_after config l.epoch;
  rows : (config : Config) → l.fn.run ≡ run_after config 0 → l.rows.items ≡ rows_before config l.epoch;
}
