use Rattle.std.proofs.Common.{◌≡◌, ◌++◌, drop, string_bytes}
use Rattle.std.specs.List.{enumerate_from, flat_map}
use Rattle.vm_tally.specs.GuestTable.{guest_records, record_at}
use Rattle.vm_tally.proofs.guest_table.guest_records_text.Given as goal

-- the records that are left complete the text
abbrev pub invariant-loop-position : goal.invariant-loop-position
invariant-loop-position l =
    string_bytes l.text ++ flat_map (record_at l.rebalancing l.combination l.further l.names) (enumerate_from l.position (drop l.position l.summaries))
    ≡ guest_records l.rebalancing l.combination l.further l.names l.summaries
