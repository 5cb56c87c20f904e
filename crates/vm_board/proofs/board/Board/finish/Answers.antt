use Rattle.std.proofs.Common.{◌≡◌, ℕ, length, ap, ◌∙◌, ◌∷◌, Some, slice_get, sym}
use Rattle.std.proofs.lemmas.Option.{slice_get_within}
use Rattle.atomic_table.specs.Table.{rest}
use Rattle.vm_board.proofs.Counts.{number_word, some_weight}
use Rattle.vm_board.proofs.Tickets.{finishes}
use Rattle.vm_board.proofs.board.Board.finish.Goals as goal

pub store-requires : goal.store-requires
store-requires g c = let b = c.self.inside.table.shared in let laid = c.self.invariant in let before = c.pass.inside.seat in let seated = c.pass.invariant in let jobs = b.key.jobs.value.items in let done = c.requires.done in
    let seat = c.exchange.new.seat in let put = c.exchange.ensures.3 in let n : ℕ = c.args.number in
    let has_job : slice_get jobs n ≡ Some done.0 = ap (λ s. slice_get s.jobs n) c.self.view_is ∙ done.1 in (
      c.exchange.ensures.0 ∙ ap (λ p. p.board) c.pass.view_is ∙ c.requires.pass ∙ sym (ap (λ s. s.id) c.self.view_is),
      number_word n b.table_id.words (length jobs) (slice_get_within jobs n done.0 has_job) laid.words,
      finishes g.J.Work.ready g.J.Work.pieces g.J.Work.piece jobs b.key.seats b.table_id.slots seat.id n done.0 _ seat.me
          (some_weight seat.me.0.weight (ap (λ m. m.0.weight) put ∙ seated.weight)) (ap (λ m. m.0.number) put ∙ ap (λ p. p.number) c.pass.view_is ∙ c.requires.number) has_job
          (ap (λ m. m.1) put ∙ ap (λ x. (n, Some x) ∷ rest before.me.1) done.2),
    )
