use Rattle.std.proofs.Common.{◌≡◌, ◌++◌, map}
use Rattle.std.specs.Vec.Iter.{into_iter_items, into_iter_len}
use Rattle.vm_lists.specs.NamedLists.{named_in}
use Rattle.vm_programs.specs.vmsweep.Lists.{guest_list}
use Rattle.vm_programs.proofs.vmsweep.guests.owned.Given as goal

-- with those that are left it is the whole
abbrev pub invariant-loop-list : goal.invariant-loop-list
invariant-loop-list l =
    l.owned.items ++ map guest_list (map named_in (into_iter_items l.left)) ≡ map guest_list (map named_in l.fn.lists.items)

abbrev pub decreases-loop-list : goal.decreases-loop-list
decreases-loop-list l = into_iter_len l.left
