use Rattle.std.proofs.Common.{◌≡◌, ◌<◌, ◌≤◌, vec_len, vec_capacity}
use Rattle.std.specs.List.{All}
use Rattle.guest_tests.proofs.tests.board.witnesses.Given as goal

abbrev pub invariant-loop-number : goal.invariant-loop-number
invariant-loop-number l = (vec_len l.list ≡ l.number) × (8 ≤ vec_capacity l.list) × All (λ job. job.number < 8) l.list.items
