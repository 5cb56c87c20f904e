use Rattle.std.proofs.Common.{sym, subst}
use Rattle.std.specs.List.{range_with_len}
use Rattle.vm_board.proofs.Gates.{range_one_more}
use Rattle.vm_pool.proofs.round.run_here.Goals as goal

pub returns-clause-passed : goal.returns-clause-passed
returns-clause-passed g c =
    let n = c.args.number.now in
    subst (g.G.Gate.passed c.pass_through-outside.result) (sym (range_one_more n))
    (c.pass_through-outside.ensures.passed (range_with_len 0 n) c.requires.passed)
