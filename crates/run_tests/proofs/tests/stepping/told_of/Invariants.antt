use Rattle.std.proofs.Common.{◌≡◌}
use Rattle.vm_host.specs.declared.phase.Phase.TheVariants.{Waiting}
use Rattle.run_tests.proofs.tests.stepping.told_of.Given as goal

-- so many epochs are done, and none waits for its boundary's
abbrev pub invariant-loop-number : goal.invariant-loop-number
invariant-loop-number g l = record {
  done : l.run.done ≡ l.number;
  epochs : l.run.epochs ≡ l.fn.run.epochs;
  waits : l.run.host.phase ≡ Waiting;
}
