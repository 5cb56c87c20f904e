use Rattle.std.proofs.Common.{All}
use Rattle.vm_trace.specs.Limits.{IsStep, IsWithin}
use Rattle.guest_tests.proofs.tests.traces.trace_of.Given as goal

abbrev pub invariant-loop-step : goal.invariant-loop-step
invariant-loop-step g l = record {
  within : All (IsWithin l.size) l.trace;
  bounded : All IsStep l.trace;
}
