use Rattle.std.specs.List.{flat_map}
use Rattle.vm_tally.specs.Summary.{fits}
use Rattle.vm_tally.specs.Table.{number_field, numbers_from_blocked, numbers_to_granted, record_text, swept_field, values_text, yes_or_no}
use Rattle.vm_tally.proofs.TextLemmas.{record-together}
use Rattle.vm_tally.proofs.table.record_text.Goals as goal

pub returns : goal.returns
unfolding record_text
returns c =
    let summary = c.args.summary.now in
    record-together _ _ _ _ _ (values_text c.args.rebalancing c.args.combination.now c.args.further.now) (numbers_to_granted summary)
    (swept_field c.args.rebalancing summary.rebalanced) (numbers_from_blocked summary) (fits summary) summary.worst _ _ _ c.in_ok-text.ensures
    c.in_ok-push_numbers.ensures c.in_ok-push_swept.ensures c.in_ok-push_numbers-2.ensures c.in_ok-push_end.ensures c.numbers_to_granted.ensures
    c.numbers_from_blocked.ensures c.fits.ensures
