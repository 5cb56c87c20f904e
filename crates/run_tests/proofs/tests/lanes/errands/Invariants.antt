use Rattle.std.proofs.Common.{◌≡◌, ◌<◌, ◌≤◌, vec_len, vec_capacity}
use Rattle.std.specs.List.{All}
use Rattle.run_tests.proofs.tests.lanes.errands.Given as goal

abbrev pub invariant-loop-number : goal.invariant-loop-number
invariant-loop-number l = (vec_len l.list ≡ l.number) × (l.count ≤ vec_capacity l.list) × All (λ errand. errand.number < 256) l.list.items
