use Rattle.std.proofs.Common.{◌≡◌, string_bytes}
use Rattle.std.specs.List.{flat_map, range_with_len}
use Rattle.vm_sim.specs.Report.{shown_at}
use Rattle.vm_sim.proofs.report.epoch_text.Given as goal

-- the lines at the positions so far were written
abbrev pub invariant-loop-position : goal.invariant-loop-position
invariant-loop-position l = string_bytes l.text ≡ flat_map (shown_at l.host) (range_with_len 0 l.position)
