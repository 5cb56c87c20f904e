use Rattle.std.proofs.Common.{◌≡◌, ◌++◌, map, drop}
use Rattle.vm_sweep.specs.Drawn.{swept_of}
use Rattle.vm_sweep.proofs.drawing.keep_runs.Given as goal

-- with those of the runs that are left they are the whole
abbrev pub invariant-loop-one : goal.invariant-loop-one
invariant-loop-one l =
    l.runs.items ++ map swept_of (drop l.one-index l.done) ≡ l.fn.runs.items ++ map swept_of l.done
