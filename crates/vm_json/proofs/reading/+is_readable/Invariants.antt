use Rattle.std.proofs.Common.{◌≡◌, drop}
use Rattle.vm_json.specs.Tree.{items_view, members_view}
use Rattle.vm_json.specs.View.{are_members_readable, are_readable}
use Rattle.vm_json.proofs.reading.+is_readable.Given as goal

abbrev pub invariant-are_members_readable-loop-value : goal.invariant-are_members_readable-loop-value
invariant-are_members_readable-loop-value l = are_members_readable (members_view l.members) ≡ are_members_readable (members_view (drop l.value-index l.members))

abbrev pub invariant-are_readable-loop-item : goal.invariant-are_readable-loop-item
invariant-are_readable-loop-item l = are_readable (items_view l.items) ≡ are_readable (items_view (drop l.item-index l.items))
