use Rattle.std.proofs.Common.{◌≡◌, ◌++◌, map, drop}
use Rattle.vm_json.specs.Tree.{value_view}
use Rattle.vm_policy_check.specs.Findings.{found_of, of_guests}
use Rattle.vm_policy_check.proofs.checking.add_guests.Given as goal

abbrev pub invariant-loop-number : goal.invariant-loop-number
invariant-loop-number l =
    map found_of l.found.items ++ of_guests (value_view l.root) l.number (drop l.number l.guests)
    ≡ map found_of l.initial.found.items ++ of_guests (value_view l.root) 0 l.guests
