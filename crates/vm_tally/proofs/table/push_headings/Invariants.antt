use Rattle.std.proofs.Common.{◌≡◌, ◌++◌, drop, map, string_bytes}
use Rattle.std.specs.List.{flat_map}
use Rattle.vm_tally.specs.Table.{field}
use Rattle.vm_tally.proofs.table.push_headings.Given as goal

-- the headings that are left complete the text
abbrev pub invariant-loop-heading : goal.invariant-loop-heading
invariant-loop-heading l =
    string_bytes l.text ++ flat_map field (map string_bytes (drop l.heading-index l.headings))
    ≡ string_bytes l.fn.text ++ flat_map field (map string_bytes l.headings)
