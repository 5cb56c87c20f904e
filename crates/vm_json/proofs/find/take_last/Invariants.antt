use Rattle.std.proofs.Common.{◌≡◌, length}
use Rattle.json.specs.Find.{get_member}
use Rattle.vm_json.specs.Tree.{members_view}
use Rattle.vm_json.proofs.find.take_last.Given as goal

abbrev pub invariant-loop-key : goal.invariant-loop-key
invariant-loop-key l = get_member l.name (members_view l.fn.members.items) ≡ get_member l.name (members_view l.rest.items)

abbrev pub decreases-loop-key : goal.decreases-loop-key
decreases-loop-key l = length l.rest.items
