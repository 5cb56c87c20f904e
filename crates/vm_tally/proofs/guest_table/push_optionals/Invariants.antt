use Rattle.std.proofs.Common.{◌≡◌, ◌++◌, drop, string_bytes}
use Rattle.std.specs.List.{flat_map}
use Rattle.vm_tally.specs.Table.{optional_field}
use Rattle.vm_tally.proofs.guest_table.push_optionals.Given as goal

-- the numbers that are left complete the text
abbrev pub invariant-loop-number : goal.invariant-loop-number
invariant-loop-number l =
    string_bytes l.text ++ flat_map optional_field (drop l.number-index l.numbers) ≡ string_bytes l.fn.text ++ flat_map optional_field l.numbers
