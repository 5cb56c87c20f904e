use Rattle.std.proofs.Common.{◌≡◌, ◌≤◌, length, take}
use Rattle.json.specs.Find.{get_member}
use Rattle.vm_json.specs.Tree.{members_view}
use Rattle.vm_json.proofs.find.last.Given as goal

abbrev pub invariant-loop-left : goal.invariant-loop-left
invariant-loop-left l = record {
  none_behind : get_member l.name (members_view l.members) ≡ get_member l.name (members_view (take l.left l.members));
  within : l.left ≤ length l.members;
}

abbrev pub decreases-loop-left : goal.decreases-loop-left
decreases-loop-left l = l.left
