use Rattle.std.proofs.Common.{◌≡◌, ◌++◌, codes, string_bytes}
use Rattle.std.specs.List.{flat_map, range_with_len}
use Rattle.vm_sim.specs.Report.{lines_at_end}
use Rattle.vm_sim.proofs.report.end_text.Given as goal

-- the lines at the positions so far were written
abbrev pub invariant-loop-position : goal.invariant-loop-position
invariant-loop-position l = string_bytes l.text ≡ codes "end\n" ++ flat_map (lines_at_end l.host) (range_with_len 0 l.position)
