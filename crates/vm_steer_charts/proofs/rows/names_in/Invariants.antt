use Rattle.std.proofs.Common.{◌≡◌, ◌++◌, drop, map}
use Rattle.vm_steer.specs.Entries.{names_in}
use Rattle.vm_steer_charts.proofs.rows.names_in.Given as goal

-- the entries that are left complete the names
abbrev pub invariant-loop-entry : goal.invariant-loop-entry
invariant-loop-entry l = map (λ n. n.items) l.names.items ++ names_in (drop l.entry-index l.entries) ≡ names_in l.entries
