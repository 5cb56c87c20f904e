use Rattle.std.proofs.Common.{arith}
use Rattle.vm_lists.proofs.ShownLaws.{list_of-shown}
use Rattle.vm_lists.proofs.showing.push_value.Goals as goal

pub returns-clause-reads_back : goal.returns-clause-reads_back
returns-clause-reads_back c = λ limits same least greatest. list_of-shown limits c.args.unit c.args.value (omega arith) same least greatest
