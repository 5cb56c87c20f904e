use Rattle.std.proofs.Common.{◌≡◌, ◌++◌, drop, map}
use Rattle.vm_sweep.proofs.runs.all_moved.Given as goal

-- the runs that are left complete the numbers
abbrev pub invariant-loop-run : goal.invariant-loop-run
invariant-loop-run l = l.numbers.items ++ map (λ run. run.moved) (drop l.run-index l.runs) ≡ map (λ run. run.moved) l.runs
