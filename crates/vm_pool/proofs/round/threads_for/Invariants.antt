use Rattle.std.proofs.Common.{◌-◌, ◌<◌, ◌≤◌}
use Rattle.vm_pool.specs.Threads.{start_of}
use Rattle.vm_pool.proofs.round.threads_for.Given as goal

-- so many threads are worth their starts
abbrev pub invariant-loop-threads : goal.invariant-loop-threads
invariant-loop-threads l = record {
  some : 0 < l.threads;
  few : l.threads ≤ l.most;
  worth : start_of l.threads ≤ l.gain;
}

abbrev pub decreases-loop-threads : goal.decreases-loop-threads
decreases-loop-threads l = l.most - l.threads
