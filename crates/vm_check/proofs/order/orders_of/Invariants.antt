use Rattle.std.proofs.Common.{◌≡◌, ◌++◌, drop}
use Rattle.std.specs.Prelude.{map}
use Rattle.vm_check.specs.Orders.{order_of}
use Rattle.vm_check.proofs.order.orders_of.Given as goal

-- the commands that are left complete the whole
abbrev pub invariant-loop-scheduled : goal.invariant-loop-scheduled
invariant-loop-scheduled l =
    l.orders.items ++ map (order_of l.page l.names) (drop l.scheduled-index l.commands) ≡ map (order_of l.page l.names) l.commands
