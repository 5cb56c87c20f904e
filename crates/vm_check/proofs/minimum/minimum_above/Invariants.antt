use Rattle.std.proofs.Common.{◌≡◌, drop}
use Rattle.vm_check.specs.Minimums.{first_cut, is_before}
use Rattle.vm_check.proofs.minimum.minimum_above.Given as goal

-- what is found is among the commands that are left
abbrev pub invariant-loop-number : goal.invariant-loop-number
invariant-loop-number l =
    first_cut l.epochs l.guest l.min (λ turn. is_before l.tune turn) l.number (drop l.number l.orders)
    ≡ first_cut l.epochs l.guest l.min (λ turn. is_before l.tune turn) 0 l.orders
