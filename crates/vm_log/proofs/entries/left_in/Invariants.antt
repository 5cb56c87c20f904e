use Rattle.std.proofs.Common.{◌≡◌, ◌-◌, ◌≤◌, drop, length, max}
use Rattle.vm_log.specs.Seen.{left_in}
use Rattle.vm_steer.specs.Entries.{names_in}
use Rattle.vm_steer.specs.Names.{place_of}
use Rattle.vm_log.proofs.entries.left_in.Given as goal

-- those that are left complete it
abbrev pub invariant-loop-entry : goal.invariant-loop-entry
invariant-loop-entry l = record {
  done : max l.most (left_in l.name (drop l.place l.entries)) ≡ left_in l.name l.entries;
  behind : place_of (names_in l.entries) l.name ≤ l.place;
  within : l.place ≤ length l.entries;
}

abbrev pub decreases-loop-entry : goal.decreases-loop-entry
decreases-loop-entry l = length l.entries - l.place
