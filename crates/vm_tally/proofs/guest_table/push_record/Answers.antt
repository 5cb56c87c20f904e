use Rattle.std.proofs.Common.{refl, string_bytes}
use Rattle.vm_tally.specs.GuestTable.{guest_fields}
use Rattle.vm_tally.specs.Table.{end_of_record, field}
use Rattle.vm_tally.proofs.GuestTextLemmas.{three-pieces}
use Rattle.vm_tally.proofs.guest_table.push_record.Goals as goal

pub returns : goal.returns
returns c =
    three-pieces (string_bytes c.args.text.now) (string_bytes c.write.new.self) (string_bytes c.push_fields.new.text) _ c.args.front.now
    (field c.args.name.now) (guest_fields c.args.rebalancing c.args.summary.now) _ end_of_record c.in_ok-write.ensures.bytes
    c.in_ok-push_fields.ensures c.in_ok-push_str.ensures.bytes refl
