use Rattle.std.proofs.Common.{◌≡◌, ◌≤◌, ◌+◌, ◌++◌, vec_len, vec_capacity}
use Rattle.std.specs.Vec.Iter.{into_iter_items, into_iter_len}
use Rattle.vm_sweep.proofs.rounds.take_round.Given as goal

-- what was taken comes before what is left
abbrev pub invariant-loop-left : goal.invariant-loop-left
invariant-loop-left l = record {
  taken : into_iter_items l.fn.left ≡ l.round.items ++ into_iter_items l.left;
  count : vec_len l.round + into_iter_len l.left ≡ into_iter_len l.fn.left;
  few : vec_len l.round ≤ l.width;
  room : l.width ≤ vec_capacity l.round;
}

abbrev pub decreases-loop-left : goal.decreases-loop-left
decreases-loop-left l = into_iter_len l.left
