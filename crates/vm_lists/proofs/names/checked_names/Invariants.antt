use Rattle.std.proofs.Common.{◌≡◌, take, drop}
use Rattle.vm_lists.specs.Names.{checked_behind, checked_names, names_in}
use Rattle.vm_lists.proofs.names.checked_names.Given as goal

-- what is left decides it
abbrev pub invariant-loop-place : goal.invariant-loop-place
invariant-loop-place g l =
    checked_behind g.R.NameRule.is_name (names_in (take l.place l.lists)) (names_in (drop l.place l.lists)) ≡ checked_names g.R.NameRule.is_name (names_in l.lists)
