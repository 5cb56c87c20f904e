use Rattle.std.proofs.Common.{List, ◌∙◌, ap}
use Rattle.vm_host.specs.Answers.{AnswerValue}
use Rattle.vm_tally.specs.Counting.{sum_each}
use Rattle.vm_tally.specs.GuestEntries.{entries_of, revoked_for}
use Rattle.vm_tally.specs.GuestTally.{each_with_more}
use Rattle.vm_tally.proofs.ColumnLemmas.{list-both}
use Rattle.vm_tally.proofs.guest_moves.add_revoked.Goals as goal

pub returns : goal.returns
returns c =
    let old = c.args.column.now in
    let told = c.args.told.now in
    list-both (λ p. sum_each (revoked_for p) told.answers) (λ p. entries_of p told.revoked) old c.add_revoked_for.new.column c.add_plan.new.column
    (c.add_revoked_for.ensures ∙ ap (λ (answers : List AnswerValue). each_with_more (λ p. sum_each (revoked_for p) answers) old) c.as_slice.ensures)
    c.add_plan.ensures
