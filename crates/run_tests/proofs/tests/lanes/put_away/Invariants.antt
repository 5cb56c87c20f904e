use Rattle.std.proofs.Common.{vec_len}
use Rattle.run_tests.proofs.tests.lanes.put_away.Given as goal

abbrev pub decreases-loop-hammer : goal.decreases-loop-hammer
decreases-loop-hammer l = vec_len l.list
