use Rattle.std.proofs.Common.{arith}
use Rattle.run_tests.proofs.tests.lanes.are_run.Goals as goal

pub run_round_with-requires-clause-serves : goal.run_round_with-requires-clause-serves
run_round_with-requires-clause-serves g c κs within = λ k d less i e more.
    let number = c.in_ok-list.ensures.numbers i e more in
    let reach = c.in_ok-tools.ensures.reach k d less in
    omega arith
