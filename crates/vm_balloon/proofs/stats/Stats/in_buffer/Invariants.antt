use Rattle.std.proofs.Common.{◌≡◌}
use Rattle.std.specs.Prelude.{map}
use Rattle.std.specs.List.{range_with_len}
use Rattle.vm_balloon.specs.StatsOf.{stats_in}
use Rattle.vm_balloon.specs.Virtio.{stat_entry}
use Rattle.vm_balloon.proofs.stats.Stats.in_buffer.Given as goal

abbrev pub invariant-loop-i : goal.invariant-loop-i
invariant-loop-i l = l.stats ≡ stats_in (map (stat_entry l.bytes) (range_with_len 0 l.i))
