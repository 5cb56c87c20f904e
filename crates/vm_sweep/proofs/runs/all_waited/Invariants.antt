use Rattle.std.proofs.Common.{◌≡◌, ◌++◌, drop, map}
use Rattle.vm_sweep.proofs.runs.all_waited.Given as goal

-- the runs that are left complete the numbers
abbrev pub invariant-loop-run : goal.invariant-loop-run
invariant-loop-run l = l.numbers.items ++ map (λ run. run.waited) (drop l.run-index l.runs) ≡ map (λ run. run.waited) l.runs
