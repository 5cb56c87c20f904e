use Rattle.std.proofs.Common.{◌≡◌, ◌++◌, drop, map}
use Rattle.vm_steer_charts.specs.Rows.{numbers_of}
use Rattle.vm_steer_charts.proofs.rows.numbers_in.Given as goal

-- the entries that are left complete the numbers
abbrev pub invariant-loop-entry : goal.invariant-loop-entry
invariant-loop-entry l =
    l.numbers.items ++ map (λ e. numbers_of e.fate) (drop l.entry-index l.entries) ≡ map (λ e. numbers_of e.fate) l.entries
