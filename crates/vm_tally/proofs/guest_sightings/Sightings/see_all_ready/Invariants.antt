use Rattle.std.proofs.Common.{◌≡◌, ◌++◌, drop, length, take}
use Rattle.vm_host.specs.World.{guest_at}
use Rattle.vm_tally.specs.GuestTally.{all_seen_ready, each_at, seen_ready}
use Rattle.vm_tally.proofs.guest_sightings.Sightings.see_all_ready.Given as goal

-- the guests that are left, once seen, complete them all
abbrev pub invariant-loop-position : goal.invariant-loop-position
invariant-loop-position l = record {
  guests : length l.self ≡ length l.fn.self;
  seen : take l.position l.self ++ each_at (λ p s. seen_ready (guest_at l.host p) s) l.position (drop l.position l.self) ≡ all_seen_ready l.host l.fn.self;
}
