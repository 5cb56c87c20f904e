use Rattle.std.proofs.Common.{ap, sym, ◌∙◌, map, length}
use Rattle.std.specs.Prelude.{nat_lt}
use Rattle.std.specs.Mem.Slots.{slots_items}
use Rattle.vm_board.specs.Sums.{one_if}
use Rattle.vm_board.specs.Pieces.{finished}
use Rattle.vm_board.proofs.Counts.{as_many}
use Rattle.vm_board.proofs.Slots.{values_each}
use Rattle.vm_board.proofs.Tickets.{settles, each_once}
use Rattle.vm_board.proofs.board.Board.close.Goals as goal

pub returns-clause-results : goal.returns-clause-results
returns-clause-results g c = let t = c.self.inside.table.shared in let laid = c.self.invariant in let jobs = t.key.jobs.value.items in let last = c.close_with.ensures.values.2 in let seat = c.merge-seat.result in let whole = c.merge-seat.ensures.whole in
    let weight = whole.0 ∙ sym (ap (λ s. s.seats) c.self.view_is) in let some_seat = laid.some_seat in
    c.gather.ensures ∙ values_each (finished g.J.Work.pieces g.J.Work.piece) jobs (slots_items c.close_with.result.slots) (sym last.3 ∙ last.1.0.long)
    (λ n j has_job. last.4 n _ (settles g.J.Work.ready g.J.Work.pieces g.J.Work.piece jobs t.key.seats last.0 last.1.0 seat.id seat.me.0 last.1.1 (as_many seat.me.0.weight t.key.seats weight some_seat) weight whole.1 whole.2 n j has_job))
    ∙ ap (λ s. map (finished g.J.Work.pieces g.J.Work.piece) s.jobs) c.self.view_is

pub returns-clause-once : goal.returns-clause-once
returns-clause-once g c = let t = c.self.inside.table.shared in let laid = c.self.invariant in let last = c.close_with.ensures.values.2 in let seat = c.merge-seat.result in let whole = c.merge-seat.ensures.whole in
    let weight = whole.0 ∙ sym (ap (λ s. s.seats) c.self.view_is) in let some_seat = laid.some_seat in
    λ n. sym (c.merge-seat.ensures.drawn n)
    ∙ each_once g.J.Work.ready g.J.Work.pieces g.J.Work.piece t.key.jobs.value.items t.key.seats last.0 last.1.0 seat.id seat.me.0 last.1.1 (as_many seat.me.0.weight t.key.seats weight some_seat) weight whole.1 whole.2 n
    ∙ ap (λ s. one_if (nat_lt n (length s.jobs))) c.self.view_is
