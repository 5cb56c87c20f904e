use Rattle.std.proofs.Common.{◌≡◌, ◌≤◌, vec_len, vec_capacity}
use Rattle.std.specs.List.{All}
use Rattle.run_tests.proofs.tests.lanes.hammers.Given as goal

abbrev pub invariant-loop-name : goal.invariant-loop-name
invariant-loop-name l = (vec_len l.list ≡ l.name) × (l.count ≤ vec_capacity l.list) × All (λ hammer. hammer.reach ≡ 256) l.list.items
