use Rattle.std.proofs.Common.{◌≡◌, ◌<◌, ◌+◌, ℕ, true, None, vec_len}
use Rattle.std.specs.List.{All}
use Rattle.vm_board.specs.Sums.{total, times}
use Rattle.vm_board.specs.Boards.{IsOver}
use Rattle.vm_board.proofs.board.Board.merge.Given as goal

abbrev pub invariant-loop-other : goal.invariant-loop-other
invariant-loop-other g l = (l.seat.table_id ≡ l.self.id) × (l.seat.me.0.weight + vec_len l.passes ≡ l.self.seats) × (0 < l.seat.me.0.weight) × (l.seat.me.0.over ≡ true) × (l.seat.me.0.number ≡ None)
    × ((n : ℕ) → times n l.seat.me.0.drawn + total (λ p. times n p.drawn) l.passes.items ≡ total (λ p. times n p.drawn) l.fn.passes.items) × All (IsOver l.self) l.passes.items

abbrev pub decreases-loop-other : goal.decreases-loop-other
decreases-loop-other g l = vec_len l.passes
