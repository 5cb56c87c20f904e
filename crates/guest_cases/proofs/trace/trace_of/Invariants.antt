use Rattle.std.proofs.Common.{All}
use Rattle.vm_trace.specs.Limits.{IsStep, IsWithin}
use Rattle.guest_cases.proofs.trace.trace_of.Given as goal

abbrev pub invariant-loop-step : goal.invariant-loop-step
invariant-loop-step l = record {
  within : All (IsWithin l.size) l.trace;
  bounded : All IsStep l.trace;
}
