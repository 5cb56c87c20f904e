use Rattle.std.proofs.Common.{◌+◌, ◌*◌, ◌≤◌, length}
use denote.Shadow.{shadow}
use denote.Text.{Utf8}
use Rattle.vm_json.specs.Tree.{gathered}
use Rattle.vm_json.proofs.PlainLemmas.{HasItems, HasMembers}
use Rattle.vm_json.proofs.plain.+plain.Given as goal

abbrev pub decreases-plain_value : goal.decreases-plain_value
decreases-plain_value l = 2 * l.depth

abbrev pub decreases-plain_items : goal.decreases-plain_items
decreases-plain_items l = 2 * l.depth + 1

abbrev pub decreases-plain_members : goal.decreases-plain_members
decreases-plain_members l = 2 * l.depth + 1

abbrev pub invariant-plain_items-loop-values : goal.invariant-plain_items-loop-values
invariant-plain_items-loop-values l =
    shadow (Utf8 l.left) × HasItems l.depth l.text (gathered l.texts.items l.values.items) l.left × (length l.left ≤ length l.text)

abbrev pub decreases-plain_items-loop-values : goal.decreases-plain_items-loop-values
decreases-plain_items-loop-values l = length l.left

abbrev pub invariant-plain_members-loop-members : goal.invariant-plain_members-loop-members
invariant-plain_members-loop-members l =
    shadow (Utf8 l.left) × HasMembers l.depth l.text l.members.items l.left × (length l.left ≤ length l.text)

abbrev pub decreases-plain_members-loop-members : goal.decreases-plain_members-loop-members
decreases-plain_members-loop-members l = length l.left
