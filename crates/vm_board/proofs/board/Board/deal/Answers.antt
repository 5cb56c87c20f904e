use Rattle.std.proofs.Common.{arith, ap, refl, sym, ◌∙◌, ℕ, ◌+◌, ◌-◌, ◌≡◌, [], length, vec_capacity, vec_len}
use Rattle.std.specs.Prelude.{Option}
use Rattle.atomic_table.specs.Table.{Me}
use Rattle.vm_board.specs.declared.plays.Hand.{Hand}
use Rattle.vm_board.specs.Boards.{IsNew}
use Rattle.vm_board.specs.Hands.{newcomer, one_less}
use Rattle.vm_board.proofs.Counts.{as_roomy, one_fewer, one_pushed, several, some_words}
use Rattle.vm_board.proofs.Sums.{all_none, all_pushed}
use Rattle.vm_board.proofs.Tickets.{splits}
use Rattle.vm_board.proofs.board.Board.deal.Goals as goal

-- one is cut off, and the seat stands for those that are left
left_seat : {J : Type 0} (was now : Me (Option J) Hand) (weight left : ℕ) → now ≡ (one_less was.0, was.1) → was ≡ (newcomer weight, []) → weight - 1 ≡ left → now ≡ (newcomer left, [])
left_seat was now weight left cut is less = cut ∙ ap (λ m. (one_less m.0, m.1)) is ∙ ap (λ w. (newcomer w, [])) less

pub split_seat-other-requires : goal.split_seat-other-requires
split_seat-other-requires g c = let t = c.self.inside.table.shared in let laid = c.self.invariant in let is = c.loop.invariant in let seat = c.loop.seat in
    let weight : seat.me.0.weight ≡ c.args.seats + 1 - c.loop.counter = ap (λ m. m.0.weight) is.1 in let left = c.loop-test.true in (
      is.0 ∙ sym (ap (λ s. s.id) c.self.view_is),
      some_words t.table_id.words (length t.key.jobs.value.items) laid.words,
      splits g.J.Work.ready g.J.Work.pieces g.J.Work.piece t.key.jobs.value.items t.key.seats seat.id seat.me.0 (several seat.me.0.weight c.args.seats c.loop.counter weight left) (ap (λ m. m.0.over) is.1),
    )

pub loop-init : goal.loop-init
loop-init g c = let seat = c.requires.seat in let none = ap length c.requires.room.0 in (
  seat.0,
  seat.1 ∙ ap (λ w. (newcomer w, [])) (omega arith),
  omega arith,
  c.requires.room.1,
  all_none (IsNew c.args.self.now) _ c.requires.room.0,
)

pub loop-preserved : goal.loop-preserved
loop-preserved g c = let is = c.loop.invariant in let cut = c.split_seat-other.ensures in let pushed = c.push_reserved.ensures in let made = cut.4 in
    let weight : c.args.seats + 1 - c.loop.counter - 1 ≡ c.args.seats + 1 - (c.loop.counter + 1) = one_fewer c.args.seats c.loop.counter in (
      cut.0 ∙ is.0,
      left_seat {J = g.row.J.Denot} c.loop.seat.me c.split_seat-other.new.seat.me (c.args.seats + 1 - c.loop.counter) (c.args.seats + 1 - (c.loop.counter + 1)) cut.2 is.1 weight,
      one_pushed (vec_len c.loop.passes) (vec_len c.push_reserved.new.self) c.loop.counter pushed.len is.2,
      as_roomy c.args.seats (vec_capacity c.loop.passes) (vec_capacity c.push_reserved.new.self) is.3 pushed.capacity,
      all_pushed (IsNew c.args.self.now) c.loop.passes.items c.push_reserved.new.self.items _ pushed.items is.4 ((cut.3 ∙ is.0, ap (λ m. m.0.number) made), ap (λ m. m.0.drawn) made, refl),
    )

pub returns : goal.returns
returns g c = let is = c.loop.invariant in let pushed = c.push_reserved-2.ensures in let me = is.1 in let some = c.requires.seat.2 in let end = c.loop.auto.counter-end in
    (omega arith, all_pushed (IsNew c.args.self.now) c.loop.passes.items c.push_reserved-2.new.self.items _ pushed.items is.4 ((is.0, ap (λ m. m.0.number) me), ap (λ m. m.0.drawn) me, refl))
