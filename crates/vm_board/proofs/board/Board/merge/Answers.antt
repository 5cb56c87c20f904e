use Rattle.std.proofs.Common.{arith, ap, ◌∙◌, ◌+◌, ◌≡◌, ℕ, length, subst, sym, List}
use Rattle.std.proofs.lemmas.List.{nil_from_length}
use Rattle.std.specs.Prelude.{nat_eq}
use Rattle.std.specs.List.{All}
use Rattle.vm_board.specs.States.{PassState}
use Rattle.vm_board.specs.Sums.{total, times, one_if}
use Rattle.vm_board.specs.Hands.{out}
use Rattle.vm_board.specs.Boards.{IsOver}
use Rattle.vm_board.proofs.Counts.{first_taken, more_weight, one_taken, some_weight, some_words}
use Rattle.vm_board.proofs.Sums.{total_snoc, total_append, all_split}
use Rattle.vm_board.proofs.Tickets.{joins}
use Rattle.vm_board.proofs.board.Board.merge.Goals as goal

pub loop-other-init : goal.loop-other-init
loop-other-init g c = let b = c.args.self.now in let items = c.in-Some.ensures.items in let first = c.first.inside.seat in let seated = c.first.invariant in
    let both = all_split (IsOver b) c.pop.new.self.items c.in-Some.first (subst (λ (ps : List PassState). All (IsOver b) ps) items c.requires.passes.1) in let mine = both.1 in
    let len = c.requires.passes.0 in let cases = c.in-Some.ensures.cases in let weight = seated.weight in (
      ap (λ p. p.board) c.first.view_is ∙ mine.0.0,
      omega arith,
      some_weight first.me.0.weight seated.weight,
      seated.ends ∙ ap (λ p. p.over) c.first.view_is ∙ mine.1,
      ap (λ p. p.number) c.first.view_is ∙ mine.0.1,
      (λ n. let f : PassState → ℕ = λ p. times n p.drawn in let whole : total f c.args.passes.items ≡ total f c.pop.new.self.items + f c.in-Some.first = ap (total f) items ∙ total_snoc f c.pop.new.self.items c.in-Some.first in
          let drew : times n first.me.0.drawn ≡ times n c.in-Some.first.drawn = ap (λ p. times n p.drawn) c.first.view_is in
          first_taken (total f c.args.passes.items) (total f c.pop.new.self.items) (f c.in-Some.first) (times n first.me.0.drawn) whole drew),
      both.0,
    )

pub join_seat-requires : goal.join_seat-requires
join_seat-requires g c = let t = c.self.inside.table.shared in let laid = c.self.invariant in let b = c.args.self.now in let is = c.loop-other.invariant in let seat = c.loop-other.seat in let x = c.other.inside.seat in let seated = c.other.invariant in
    let both = all_split (IsOver b) c.pop-in-loop-other.new.self.items c.in-Some-pop.other (subst (λ (ps : List PassState). All (IsOver b) ps) c.in-Some-pop.ensures.items is.6) in let mine = both.1 in
    let here = sym (ap (λ s. s.id) c.self.view_is) in let number = ap (λ p. p.number) c.other.view_is ∙ mine.0.1 in (
      is.0 ∙ here,
      ap (λ p. p.board) c.other.view_is ∙ mine.0.0 ∙ here,
      seated.slots ∙ ap out number,
      some_words t.table_id.words (length t.key.jobs.value.items) laid.words,
      joins g.J.Work.ready g.J.Work.pieces g.J.Work.piece t.key.jobs.value.items t.key.seats seat.id seat.me.0 x.id x.me.0 is.2 is.3 (seated.ends ∙ ap (λ p. p.over) c.other.view_is ∙ mine.1) is.4 number,
    )

pub loop-other-preserved : goal.loop-other-preserved
loop-other-preserved g c = let b = c.args.self.now in let is = c.loop-other.invariant in let seat = c.loop-other.seat in let x = c.other.inside.seat in let seated = c.other.invariant in let items = c.in-Some-pop.ensures.items in
    let both = all_split (IsOver b) c.pop-in-loop-other.new.self.items c.in-Some-pop.other (subst (λ (ps : List PassState). All (IsOver b) ps) items is.6) in let one = seated.weight in let now = c.join_seat.ensures.2 in
    let weight : c.join_seat.new.seat.me.0.weight ≡ seat.me.0.weight + x.me.0.weight = ap (λ m. m.0.weight) now in let cases = c.in-Some-pop.ensures.cases in let whole = is.1 in (
      c.join_seat.ensures.0 ∙ is.0,
      omega arith,
      more_weight c.join_seat.new.seat.me.0.weight seat.me.0.weight x.me.0.weight weight is.2,
      ap (λ m. m.0.over) now ∙ is.3,
      ap (λ m. m.0.number) now ∙ is.4,
      (λ n. let f : PassState → ℕ = λ p. times n p.drawn in let all_of : total f c.loop-other.passes.items ≡ total f c.pop-in-loop-other.new.self.items + f c.in-Some-pop.other = ap (total f) items ∙ total_snoc f c.pop-in-loop-other.new.self.items c.in-Some-pop.other in
          let theirs : times n x.me.0.drawn ≡ times n c.in-Some-pop.other.drawn = ap (λ p. times n p.drawn) c.other.view_is in
          let drew : times n c.join_seat.new.seat.me.0.drawn ≡ times n seat.me.0.drawn + times n x.me.0.drawn = ap (λ m. times n m.0.drawn) now ∙ total_append (λ (m : ℕ). one_if (nat_eq m n)) seat.me.0.drawn x.me.0.drawn in
          one_taken (total f (c.args.passes.items)) (total f c.loop-other.passes.items) (total f c.pop-in-loop-other.new.self.items) (f c.in-Some-pop.other) (times n x.me.0.drawn) (times n seat.me.0.drawn)
          (times n c.join_seat.new.seat.me.0.drawn) all_of theirs drew (is.5 n)),
      both.0,
    )

pub unreachable-requires : goal.unreachable-requires
unreachable-requires g c = let none = c.in_default.ensures.cases in let len = c.requires.passes.0 in let seats = ap (λ s. s.seats) c.self.view_is in let some_seat = c.self.invariant.some_seat in omega arith

pub destroy_empty-requires : goal.destroy_empty-requires
destroy_empty-requires g c = c.in_default-pop.ensures.cases.1

pub returns-clause-table : goal.returns-clause-table
returns-clause-table g c = c.loop-other.invariant.0

pub returns-clause-whole : goal.returns-clause-whole
returns-clause-whole g c = let is = c.loop-other.invariant in let none = c.in_default-pop.ensures.cases in let weight = is.1 in (omega arith, is.3, is.4)

pub returns-clause-drawn : goal.returns-clause-drawn
returns-clause-drawn g c n = let was = c.loop-other.invariant.5 n in let none = c.in_default-pop.ensures.cases in let long = c.loop-other.passes.ok in
    let rest = ap (total (λ (p : PassState). times n p.drawn)) (nil_from_length c.loop-other.passes.items (omega arith)) in omega arith
