use Rattle.std.proofs.Common.{◌∷◌, ◌++◌, [], ◌∙◌, arith, sym}
use Rattle.std.proofs.lemmas.List.FromFn.{map-range_with_len_more}
use Rattle.vm_tally.specs.GuestTally.{summary_at}
use Rattle.vm_tally.proofs.guest_tally.GuestTally.summaries.Goals as goal

pub loop-position-preserved : goal.loop-position-preserved
loop-position-preserved c =
    let n = c.loop-position.position in
    c.in_ok-push.ensures.items ∙ (λ i. c.loop-position.invariant i ++ c.summary_at.ensures i ∷ [])
    ∙ sym (map-range_with_len_more (summary_at c.args.self.now c.args.host.now) 0 n n (omega arith))
