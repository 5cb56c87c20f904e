use Rattle.std.proofs.Common.{◌≡◌, ◌≤◌, drop, length, map}
use Rattle.vm_steer.specs.Names.{AreRising}
use Rattle.vm_steer.specs.Order.{in_order, names_of}
use Rattle.vm_steer.proofs.order.in_order.Given as goal

-- those from `left` on are in order
abbrev pub invariant-loop-left : goal.invariant-loop-left
invariant-loop-left l =
    (l.left ≤ length l.domains) ×
    (map (λ d. d.now) l.ordered.domains.items ≡ in_order (drop l.left l.domains)) ×
    (map (λ n. n.now) l.ordered.names.items ≡ names_of (map (λ d. d.now) l.ordered.domains.items)) ×
    AreRising (names_of (map (λ d. d.now) l.ordered.domains.items))

abbrev pub decreases-loop-left : goal.decreases-loop-left
decreases-loop-left l = l.left
