use Rattle.std.proofs.Common.{◌≡◌, None, ◌++◌, ◌∙◌, get_or, string_bytes}
use Rattle.vm_tally.specs.declared.guest_summary.GuestSummary.{GuestSummary}
use Rattle.vm_tally.specs.GuestTable.{guest_fields, guest_record, name_at, record_at}
use Rattle.vm_tally.specs.Table.{end_of_record, field, values_text}
use Rattle.vm_tally.proofs.GuestTextLemmas.{piece-more, pieces-end}
use Rattle.vm_tally.proofs.guest_table.guest_records_text.Goals as goal

-- of no guest
nothing : GuestSummary
nothing = record {
  epochs = 0;
  revoked = 0;
  paged = 0;
  evicted = 0;
  granted = 0;
  rebalanced = 0;
  blocked = 0;
  stalls = 0;
  done = 0;
  most_swapped = 0;
  at_end = None;
}

pub loop-position-preserved : goal.loop-position-preserved
unfolding nothing guest_record
loop-position-preserved c =
    let rebalancing = c.args.rebalancing in
    let i = c.loop-position.position in
    let old = string_bytes c.loop-position.text in
    let summary = get_or c.args.summaries.now i nothing in
    let front : c.deref.result.now ≡ values_text rebalancing c.args.combination.now c.args.further.now = c.deref.ensures ∙ c.in_ok-front.ensures in
    let name : c.name_at-name.result.now ≡ name_at c.args.names.now i = c.name_at-name.ensures in
    piece-more (record_at rebalancing c.args.combination.now c.args.further.now c.args.names.now) c.args.summaries.now i nothing old (string_bytes c.push_record.new.text) _
    c.loop-position-test.true
    (c.in_ok-push_record.ensures
    ∙ (λ t. old ++ (front t ++ (field (name t) ++ (guest_fields rebalancing summary ++ end_of_record)))))
    c.loop-position.invariant

pub returns : goal.returns
returns c =
    pieces-end (record_at c.args.rebalancing c.args.combination.now c.args.further.now c.args.names.now) c.args.summaries.now c.loop-position.position (string_bytes c.loop-position.text) _
    c.loop-position-test.false c.loop-position.invariant
