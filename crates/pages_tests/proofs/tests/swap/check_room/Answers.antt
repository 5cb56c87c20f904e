use Rattle.std.proofs.Common.{rules}
use Rattle.std.specs.FinMap.{gets}
use Rattle.pages_tests.proofs.tests.swap.check_room.Goals as goal

pub returns-clause-more_room : goal.returns-clause-more_room
returns-clause-more_room g c = λ other. grind (gets, rules)
