use Rattle.std.proofs.Common.{◌≡◌, true, rules, arith}
use Rattle.std.specs.Cmp.{nat_cmp_total}
use Rattle.std.specs.FinMap.{contains_key, len-remove}
use Rattle.pages_tests.proofs.tests.swap.trade_full.Goals as goal

pub trade-requires-clause-room : goal.trade-requires-clause-room
trade-requires-clause-room g c =
    let there : contains_key c.args.area.now.pages c.args.page ≡ true = search rules in
    rw (len-remove nat_cmp_total c.args.area.now.pages c.args.page, there) (omega arith)
