use Rattle.std.proofs.Common.{◌≡◌, ◌++◌, drop, string_bytes}
use Rattle.std.specs.List.{flat_map}
use Rattle.vm_sim.specs.Lines.{read_line}
use Rattle.vm_sim.proofs.lines.push_reads.Given as goal

-- the reads that are left complete the text
abbrev pub invariant-loop-read : goal.invariant-loop-read
invariant-loop-read l =
    string_bytes l.text ++ flat_map (read_line l.name) (drop l.read-index l.reads) ≡ string_bytes l.fn.text ++ flat_map (read_line l.name) l.reads
