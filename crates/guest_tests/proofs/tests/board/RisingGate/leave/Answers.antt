use Rattle.std.proofs.Common.{◌++◌, ◌∷◌, [], ◌∙◌, ap, sym}
use Rattle.guest_tests.proofs.tests.board.RisingGate.leave.Goals as goal

pub returns : goal.returns
returns c = λ before is. (tt, (before, ap (λ n. before ++ n ∷ []) (sym is ∙ sym c.into_inside.ensures)))
