use Rattle.std.proofs.Common.{ℕ, List, [], subst, sym, ◌+◌, ◌%◌, ◌^◌, ◌≡◌, ◌<◌, ap, ◌∙◌, ◌∷◌, ◌++◌, None, Some, length, get_or, slice_get, lt-ltb}
use Rattle.std.specs.Prelude.{Bool, Option, is_some, true}
use Rattle.std.specs.List.{All}
use Rattle.std.proofs.lemmas.Bool.{le-ltb}
use Rattle.std.proofs.lemmas.Bool.Decides.{when_true, when_false}
use mathlib.Core.Option.{none}
use Rattle.atomic_table.specs.Table.{Me, step, rest, Allows}
use Rattle.vm_board.specs.States.{PassState}
use Rattle.vm_board.specs.Hands.{Ended, IsSeated, drew, out}
use Rattle.vm_board.specs.declared.plays.Hand.{Hand}
use Rattle.vm_board.specs.Tickets.{IsKept}
use Rattle.vm_board.proofs.Counts.{below_count, past_count, some_weight, some_words}
use Rattle.vm_board.proofs.Tickets.{draws}
use Rattle.vm_board.proofs.board.Board.draw_as.Goals as goal

pub fetch_add-found-requires : goal.fetch_add-found-requires
fetch_add-found-requires g c = let b = c.self.inside.table.shared in let laid = c.self.invariant in let seat = c.pass.inside.seat in let seated = c.pass.invariant in let jobs = b.key.jobs.value.items in let n = b.table_id.slots in (
  ap (λ p. p.board) c.pass.view_is ∙ c.requires.pass.0.0 ∙ sym (ap (λ s. s.id) c.self.view_is),
  some_words b.table_id.words (length jobs) laid.words,
  subst (λ (js : List g.row.J.Denot). Allows (IsKept g.J.Work.ready g.J.Work.pieces g.J.Work.piece jobs b.key.seats) n seat.id seat.me 0 (λ k. (k + 1) % 2 ^ 64) (drew g.J.Work.ready js (step n 0 1 0 none) seat.me))
      (ap (λ s. s.jobs) c.self.view_is ∙ c.requires.jobs)
      (draws g.J.Work.ready g.J.Work.pieces g.J.Work.piece jobs b.key.seats n seat.id seat.me (some_weight seat.me.0.weight seated.weight)
      (seated.ends ∙ ap (λ p. p.over) c.pass.view_is ∙ c.requires.pass.1) (ap (λ p. p.number) c.pass.view_is ∙ c.requires.pass.0.1) laid.slots),
)

-- the pass is over, and all else of it stays
ended_seated : {J : Type 0} (me now : Me (Option J) Hand) (over : Bool) → Ended me now → IsSeated me over → IsSeated now true
ended_seated me now over gone seated = record {
  weight = ap (λ m. m.0.weight) gone ∙ seated.weight;
  ends = ap (λ m. m.0.over) gone;
  slots = ap (λ m. m.1) gone ∙ seated.slots ∙ ap out (sym (ap (λ m. m.0.number) gone));
}

pub invariant_of-pass : goal.invariant_of-pass
invariant_of-pass g c = let found = c.fetch_add-found.result in let slots = c.self.inside.table.shared.table_id.slots in
    ended_seated {J = g.row.J.Denot} c.pass.inside.seat.me c.fetch_add-found.new.seat.me c.pass.inside.over
    (when_false _ _ (le-ltb found slots (past_count found c.slot_count.result slots c.if-found-slot_count.true c.slot_count.ensures)) c.fetch_add-found.ensures.2) c.pass.invariant

pub exchange-job-requires : goal.exchange-job-requires
exchange-job-requires g c = let found = c.fetch_add-found.result in
    let did = when_true _ _ (lt-ltb found c.self.inside.table.shared.table_id.slots (below_count found c.slot_count.result c.self.inside.table.shared.table_id.slots c.if-found-slot_count.false c.slot_count.ensures)) c.fetch_add-found.ensures.2 in
    (c.fetch_add-found.ensures.0 ∙ ap (λ p. p.board) c.pass.view_is ∙ c.requires.pass.0.0 ∙ sym (ap (λ s. s.id) c.self.view_is), (Some did.0, did.4 ∙ (λ i. (found, Some did.0) ∷ sym (ap rest did.4) i)))

pub unwrap-requires : goal.unwrap-requires
unwrap-requires g c = let found = c.fetch_add-found.result in
    let did = when_true _ _ (lt-ltb found c.self.inside.table.shared.table_id.slots (below_count found c.slot_count.result c.self.inside.table.shared.table_id.slots c.if-found-slot_count.false c.slot_count.ensures)) c.fetch_add-found.ensures.2 in
    ap (λ (xs : List (ℕ × Option g.row.J.Denot)). is_some (get_or xs 0 (found, None)).1) (sym c.exchange-job.ensures.2 ∙ did.4)

pub returns-clause-ready : goal.returns-clause-ready
returns-clause-ready g c = let found = c.fetch_add-found.result in
    let did = when_true _ _ (lt-ltb found c.self.inside.table.shared.table_id.slots (below_count found c.slot_count.result c.self.inside.table.shared.table_id.slots c.if-found-slot_count.false c.slot_count.ensures)) c.fetch_add-found.ensures.2 in
    let is : Some did.0 ≡ Some c.unwrap.result = ap (λ (xs : List (ℕ × Option g.row.J.Denot)). (get_or xs 0 (found, None)).1) (sym did.4 ∙ c.exchange-job.ensures.2) ∙ c.unwrap.ensures in
    let same : did.0 ≡ c.unwrap.result = cc in subst g.J.Work.ready same did.2

pub returns-clause-drawn : goal.returns-clause-drawn
returns-clause-drawn g c = let found = c.fetch_add-found.result in let was = c.pass.view_is in let put = c.exchange-job.ensures in
    let did = when_true _ _ (lt-ltb found c.self.inside.table.shared.table_id.slots (below_count found c.slot_count.result c.self.inside.table.shared.table_id.slots c.if-found-slot_count.false c.slot_count.ensures)) c.fetch_add-found.ensures.2 in
    let is = ap (λ (xs : List (ℕ × Option g.row.J.Denot)). (get_or xs 0 (found, None)).1) (sym did.4 ∙ put.2) ∙ c.unwrap.ensures in
    let hand = ap (λ m. m.0) put.3 ∙ did.3 in
    let board = put.0 ∙ c.fetch_add-found.ensures.0 ∙ ap (λ p. p.board) was in
    let drawn = ap (λ h. h.drawn) hand ∙ ap (λ p. p.drawn ++ found ∷ []) was in
    let number = ap (λ h. h.number) hand in
    let over = ap (λ p. p.over) was in record {
      job = ap (λ js. slice_get js found) c.requires.jobs ∙ did.1 ∙ is;
      above = subst (λ (p : PassState). All (λ k. k < found) p.drawn) was did.5;
      pass = λ i. record { board = board i; drawn = drawn i; number = number i; over = over i };
    }

pub invariant_of-pass-2 : goal.invariant_of-pass-2
invariant_of-pass-2 g c = let found = c.fetch_add-found.result in let put = c.exchange-job.ensures in let seated = c.pass.invariant in
    let did = when_true _ _ (lt-ltb found c.self.inside.table.shared.table_id.slots (below_count found c.slot_count.result c.self.inside.table.shared.table_id.slots c.if-found-slot_count.false c.slot_count.ensures)) c.fetch_add-found.ensures.2 in
    let hand = ap (λ m. m.0) put.3 ∙ did.3 in
    let empty = ap (λ p. p.number) c.pass.view_is ∙ c.requires.pass.0.1 in record {
      weight = ap (λ h. h.weight) hand ∙ seated.weight;
      ends = ap (λ h. h.over) hand ∙ seated.ends;
      slots = ap (λ m. m.1) put.3 ∙ ap (λ xs. (found, None) ∷ xs) (ap rest did.4 ∙ seated.slots ∙ ap out empty) ∙ ap out (sym (ap (λ h. h.number) hand));
    }
