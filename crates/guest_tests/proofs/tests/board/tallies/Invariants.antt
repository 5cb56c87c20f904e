use Rattle.std.proofs.Common.{◌≡◌, ◌<◌, ◌≤◌, ◌^◌, vec_len, vec_capacity}
use Rattle.std.specs.List.{All}
use Rattle.guest_tests.proofs.tests.board.tallies.Given as goal

abbrev pub invariant-loop-i : goal.invariant-loop-i
invariant-loop-i l = (vec_len l.list ≡ l.i) × (l.count ≤ vec_capacity l.list) × All (λ job. job.runs < 2 ^ 32) l.list.items
