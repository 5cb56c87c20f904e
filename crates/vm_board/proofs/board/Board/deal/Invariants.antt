use Rattle.std.proofs.Common.{◌≡◌, ◌≤◌, ◌+◌, ◌-◌, [], vec_len, vec_capacity}
use Rattle.std.specs.List.{All}
use Rattle.vm_board.specs.Hands.{newcomer}
use Rattle.vm_board.specs.Boards.{IsNew}
use Rattle.vm_board.proofs.board.Board.deal.Given as goal

abbrev pub invariant-loop : goal.invariant-loop
invariant-loop g l = (l.seat.table_id ≡ l.self.id) × (l.seat.me ≡ (newcomer (l.seats + 1 - l.counter), [])) × (vec_len l.passes + 1 ≡ l.counter) × (l.seats ≤ vec_capacity l.passes) × All (IsNew l.self) l.passes.items
