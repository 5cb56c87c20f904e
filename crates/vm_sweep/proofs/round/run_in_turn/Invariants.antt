use Rattle.std.proofs.Common.{◌≡◌, ◌≤◌, ◌+◌, ◌++◌, map, reverse, vec_len, vec_capacity}
use Rattle.std.specs.List.{All}
use Rattle.vm_sweep.proofs.round.run_in_turn.Given as goal

abbrev pub invariant-loop-job : goal.invariant-loop-job
invariant-loop-job g l = record {
  items : l.results.items ++ map g.J.Task.result_of (reverse l.jobs.items) ≡ map g.J.Task.result_of (reverse l.initial.jobs.items);
  room : vec_len l.results + vec_len l.jobs ≤ vec_capacity l.results;
  serves : All (g.J.Task.serves l.tool) l.jobs.items;
  tool : (job : _) → g.J.Task.serves l.initial.tool job → g.J.Task.serves l.tool job;
}

abbrev pub decreases-loop-job : goal.decreases-loop-job
decreases-loop-job g l = vec_len l.jobs
