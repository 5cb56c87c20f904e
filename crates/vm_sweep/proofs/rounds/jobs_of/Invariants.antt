use Rattle.std.proofs.Common.{◌≡◌, ◌++◌, map}
use Rattle.std.specs.Vec.Iter.{into_iter_items, into_iter_len}
use Rattle.vm_sweep.specs.Orders.{order_of}
use Rattle.vm_sweep.proofs.rounds.jobs_of.Given as goal

-- with those that are left it is the whole
abbrev pub invariant-loop-variant : goal.invariant-loop-variant
invariant-loop-variant l =
    l.jobs.items ++ map (order_of l.detail l.config) (into_iter_items l.left) ≡ map (order_of l.detail l.config) l.fn.list.items

abbrev pub decreases-loop-variant : goal.decreases-loop-variant
decreases-loop-variant l = into_iter_len l.left
