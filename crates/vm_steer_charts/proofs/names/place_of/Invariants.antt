use Rattle.std.proofs.Common.{◌≡◌, ℕ, ◌-◌, ◌<◌, ◌≤◌, true, false, [], get_or, length, map}
use Rattle.vm_steer.specs.Names.{is_before}
use Rattle.vm_steer_charts.proofs.names.place_of.Given as goal

-- those below `low` stand in front of the name, and those from `high` on don't
abbrev pub invariant-loop-low : goal.invariant-loop-low
invariant-loop-low l =
    (l.low ≤ l.high) × (l.high ≤ length l.names) ×
    ((k : ℕ) → k < l.low → is_before (get_or (map (λ n. n.items) l.names) k []) l.name ≡ true) ×
    ((k : ℕ) → l.high ≤ k → k < length l.names → is_before (get_or (map (λ n. n.items) l.names) k []) l.name ≡ false)

abbrev pub decreases-loop-low : goal.decreases-loop-low
decreases-loop-low l = l.high - l.low
