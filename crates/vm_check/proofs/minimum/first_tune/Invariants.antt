use Rattle.std.proofs.Common.{◌≡◌, ◌||◌, drop}
use Rattle.vm_check.specs.declared.minimum.Turn.{Turn}
use Rattle.vm_check.specs.Minimums.{is_before, tuned_before}
use Rattle.vm_check.proofs.minimum.first_tune.Given as goal

-- the first one so far, or one of those that are left
abbrev pub invariant-loop-number : goal.invariant-loop-number
invariant-loop-number l =
    (turn : Turn) → (is_before l.first turn || tuned_before l.guest turn l.number (drop l.number l.orders)) ≡ tuned_before l.guest turn 0 l.orders
