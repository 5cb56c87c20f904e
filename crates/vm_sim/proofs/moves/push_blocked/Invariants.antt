use Rattle.std.proofs.Common.{◌≡◌, ◌++◌, drop, string_bytes}
use Rattle.std.specs.List.{flat_map}
use Rattle.vm_sim.specs.Report.{block_line_at}
use Rattle.vm_sim.proofs.moves.push_blocked.Given as goal

-- the positions that are left complete the text
abbrev pub invariant-loop-position : goal.invariant-loop-position
invariant-loop-position l =
    string_bytes l.text ++ flat_map (block_line_at l.host) (drop l.position-index l.positions) ≡ string_bytes l.fn.text ++ flat_map (block_line_at l.host) l.positions
