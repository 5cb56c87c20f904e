use Rattle.std.proofs.Common.{◌≡◌, length}
use Rattle.vm_config.specs.declared.config.Config.{Config}
use Rattle.vm_host.specs.declared.phase.Phase.TheVariants.{Waiting}
use Rattle.vm_sim.specs.Course.{course_of}
use Rattle.vm_sim.specs.Stepping.{run_after}
use Rattle.vm_tally.specs.GuestTally.{tally_after}
use Rattle.vm_tally.proofs.guest_running.count_all.Given as goal

-- the run has gone on by the epochs so far, which the tally is of
abbrev pub invariant-loop-epoch : goal.invariant-loop-epoch
invariant-loop-epoch l = record {
  done : l.run.done ≡ l._epoch;
  epochs : l.run.epochs ≡ l.fn.run.epochs;
  waits : l.run.host.phase ≡ Waiting;
  run : (config : Config) → l.fn.run ≡ run_after config 0 → l.run ≡ run_after config l._epoch;
  tally : (config : Config) → l.fn.run ≡ run_after config 0 → l.tally ≡ tally_after (course_of config) (length config.domains) l._epoch;
}
