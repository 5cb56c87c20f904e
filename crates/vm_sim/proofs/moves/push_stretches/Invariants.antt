use Rattle.std.proofs.Common.{◌≡◌, ◌++◌, drop, string_bytes}
use Rattle.std.specs.List.{flat_map}
use Rattle.vm_sim.specs.Report.{stretch_line}
use Rattle.vm_sim.proofs.moves.push_stretches.Given as goal

-- the stretches that are left complete the text
abbrev pub invariant-loop-stretch : goal.invariant-loop-stretch
invariant-loop-stretch l =
    string_bytes l.text ++ flat_map (stretch_line l.word l.host) (drop l.stretch-index l.stretches) ≡ string_bytes l.fn.text ++ flat_map (stretch_line l.word l.host) l.stretches
