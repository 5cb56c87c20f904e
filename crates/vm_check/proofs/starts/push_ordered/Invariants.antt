use Rattle.std.proofs.Common.{◌≡◌, ◌++◌, drop}
use Rattle.vm_check.specs.Starts.{ordered_starts}
use Rattle.vm_check.proofs.starts.push_ordered.Given as goal

-- the commands that are left complete the whole
abbrev pub invariant-loop-order : goal.invariant-loop-order
invariant-loop-order l =
    l.starts.items ++ ordered_starts (drop l.order-index l.orders) ≡ l.fn.starts.items ++ ordered_starts l.orders
