use Rattle.std.proofs.Common.{◌≡◌, map}
use Rattle.std.specs.List.{range_with_len}
use Rattle.vm_tally.specs.GuestTally.{summary_at}
use Rattle.vm_tally.proofs.guest_tally.GuestTally.summaries.Given as goal

-- what is told of the guests so far
abbrev pub invariant-loop-position : goal.invariant-loop-position
invariant-loop-position l = l.told.items ≡ map (summary_at l.self l.host) (range_with_len 0 l.position)
