use Rattle.std.proofs.Common.{◌≡◌, ◌∙◌, ap}
use Rattle.vm_tally.specs.Tally.{with_moves, with_seen, with_state}
use Rattle.vm_tally.proofs.tally.add_boundary.Goals as goal

-- src/tally.rt:102:1
pub returns-clause-summary : goal.returns-clause-summary
returns-clause-summary c =
    let b = c.args.told.now in
    let moved : c.add_moves.new.summary ≡ with_moves b (with_state b.state c.args.summary.now) =
    c.add_moves.ensures ∙ ap (with_moves b) c.add_state.ensures in
    c.see.ensures ∙ (λ t. with_seen b.free (c.counts_of-counts.ensures.swapped t) (moved t))

-- src/tally.rt:102:1
pub returns-clause-executed : goal.returns-clause-executed
returns-clause-executed c = c.counts_of-counts.ensures.executed
