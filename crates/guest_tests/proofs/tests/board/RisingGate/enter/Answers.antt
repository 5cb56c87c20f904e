use Rattle.std.proofs.Common.{refl}
use Rattle.guest_tests.proofs.tests.board.RisingGate.enter.Goals as goal

pub returns-then-number-last : goal.returns-then-number-last
returns-then-number-last c = λ before passed. refl

pub returns-in_default : goal.returns-in_default
returns-in_default c = λ before passed. refl
