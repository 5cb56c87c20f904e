use Rattle.std.proofs.Common.{◌≡◌, ◌++◌, drop, map, string_bytes}
use Rattle.vm_sweep.proofs.headings.push_each.Given as goal

-- the lists that are left complete the headings
abbrev pub invariant-loop-list : goal.invariant-loop-list
invariant-loop-list l =
    map string_bytes l.headings.items ++ map (λ list. l.word ++ list.name) (drop l.list-index l.lists)
    ≡ map string_bytes l.fn.headings.items ++ map (λ list. l.word ++ list.name) l.lists
