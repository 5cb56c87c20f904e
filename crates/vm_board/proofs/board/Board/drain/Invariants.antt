use Rattle.std.proofs.Common.{◌≡◌, ◌-◌, ◌++◌, ℕ, List, length}
use Rattle.vm_board.specs.Boards.{IsIdle}
use Rattle.vm_board.specs.Gates.{Rises}
use Rattle.vm_board.proofs.Sums.{past}
use Rattle.vm_board.proofs.board.Board.drain.Given as goal

-- the gate let through what was drawn since
abbrev pub invariant-loop-number : goal.invariant-loop-number
invariant-loop-number g l = record {
  idle : IsIdle l.self l.pass;
  passed : (numbers : List ℕ) × (l.pass.drawn ≡ l.fn.pass.drawn ++ numbers) × g.G.Gate.passed l.outside numbers;
  rises : Rises l.fn.pass.drawn → Rises l.pass.drawn;
}

abbrev pub decreases-loop-number : goal.decreases-loop-number
decreases-loop-number g l = length l.self.jobs - past l.pass.drawn
