use Rattle.vm_board.proofs.Shown.{shows_rounds}
use Rattle.vm_board.proofs.law.law_board.Goals as goal

pub returns : goal.returns
returns g c = shows_rounds g.J.Work.ready g.J.Work.pieces g.J.Work.piece
