use Rattle.std.proofs.Common.{◌≡◌}
use Rattle.vm_config.specs.declared.config.Config.{Config}
use Rattle.vm_host.specs.declared.phase.Phase.TheVariants.{Waiting}
use Rattle.vm_sim.specs.Course.{course_of}
use Rattle.vm_sim.specs.Stepping.{run_after}
use Rattle.vm_tally.specs.Summary.{summary_after}
use Rattle.vm_tally.proofs.running.summarize.Given as goal

-- the run has gone on by the epochs so far, and the summary is of them
abbrev pub invariant-loop-epoch : goal.invariant-loop-epoch
invariant-loop-epoch l = record {
  done : l.run.done ≡ l.epoch;
  epochs : l.run.epochs ≡ l.fn.run.epochs;
  waits : l.run.host.phase ≡ Waiting;
  run : (config : Config) → l.fn.run ≡ run_after config 0 → l.run ≡ run_after config l.epoch;
  summary : (config : Config) → l.fn.run ≡ run_after config 0 → l.summary ≡ summary_after (course_of config) l.epoch;
}
