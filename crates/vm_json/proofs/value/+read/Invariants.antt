use Rattle.std.proofs.Common.{◌≡◌, ℕ, ◌+◌, ◌*◌, ◌≤◌, length}
use Rattle.json.specs.Json.{items, members, value, parse_map}
use Rattle.vm_json.specs.Tree.{gathered}
use Rattle.vm_json.proofs.TreeLemmas.{items_before, members_before}
use Rattle.vm_json.proofs.value.+read.Given as goal

abbrev pub decreases-read_value : goal.decreases-read_value
decreases-read_value l = 3 * l.depth + 1

abbrev pub decreases-value_from : goal.decreases-value_from
decreases-value_from l = 3 * l.depth

abbrev pub decreases-read_items : goal.decreases-read_items
decreases-read_items l = 3 * l.depth + 1

abbrev pub decreases-read_members : goal.decreases-read_members
decreases-read_members l = 3 * l.depth + 2

-- what is gathered, and the items to come, are all items; the bound on the turns is still enough
abbrev pub invariant-read_items-loop-reader : goal.invariant-read_items-loop-reader
invariant-read_items-loop-reader l =
    (n : ℕ) × (length l.reader ≤ n)
    × (items (value l.depth) (length l.initial.reader) l.initial.reader ≡ parse_map (items_before (gathered l.texts.items l.values.items)) (items (value l.depth) n l.reader))
    × (length l.reader ≤ length l.initial.reader)

abbrev pub decreases-read_items-loop-reader : goal.decreases-read_items-loop-reader
decreases-read_items-loop-reader l = length l.reader

-- likewise the members
abbrev pub invariant-read_members-loop-next : goal.invariant-read_members-loop-next
invariant-read_members-loop-next l =
    (n : ℕ) × (length l.reader ≤ n)
    × (members (value l.depth) (length l.initial.reader) l.initial.reader ≡ parse_map (members_before l.found.items) (members (value l.depth) n l.reader))
    × (length l.reader ≤ length l.initial.reader)

abbrev pub decreases-read_members-loop-next : goal.decreases-read_members-loop-next
decreases-read_members-loop-next l = length l.reader
