use Rattle.std.proofs.Common.{◌≡◌, ◌≤◌, ◌+◌, ◌++◌, reverse, vec_len, vec_capacity}
use Rattle.vm_board.specs.Values.{values}
use Rattle.vm_sweep.proofs.placing.collect.Given as goal

abbrev pub invariant-loop-result : goal.invariant-loop-result
invariant-loop-result g l = record {
  items : l.results.items ++ values (reverse l.places.items) ≡ values (reverse l.initial.places.items);
  room : vec_len l.results + vec_len l.places ≤ vec_capacity l.results;
}

abbrev pub decreases-loop-result : goal.decreases-loop-result
decreases-loop-result g l = vec_len l.places
