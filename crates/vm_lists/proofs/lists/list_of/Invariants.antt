use Rattle.vm_lists.proofs.ReadLaws.{Reads, turns_left}
use Rattle.vm_lists.proofs.lists.list_of.Given as goal

abbrev pub invariant-loop-left : goal.invariant-loop-left
invariant-loop-left l = Reads l.limits l.text l.list l.left

abbrev pub decreases-loop-left : goal.decreases-loop-left
decreases-loop-left l = turns_left l.left
