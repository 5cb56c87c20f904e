use Rattle.std.proofs.Common.{◌≡◌, ℕ, ◌-◌, ◌<◌, ◌≤◌, true, false, [], get_or, length, map}
use Rattle.vm_steer.specs.Names.{is_before}
use Rattle.vm_log.proofs.named.place_of.Given as goal

-- those below `low` stand in front of the name, and those from `high` on don't
abbrev pub invariant-loop-low : goal.invariant-loop-low
invariant-loop-low g l =
    (l.low ≤ l.high) × (l.high ≤ length l.items) ×
    ((k : ℕ) → k < l.low → is_before (get_or (map g.T.Named.name_of l.items) k []) l.name ≡ true) ×
    ((k : ℕ) → l.high ≤ k → k < length l.items → is_before (get_or (map g.T.Named.name_of l.items) k []) l.name ≡ false)

abbrev pub decreases-loop-low : goal.decreases-loop-low
decreases-loop-low g l = l.high - l.low
