use Rattle.std.proofs.Common.{◌≡◌, ◌++◌, drop, string_bytes}
use Rattle.std.specs.List.{flat_map}
use Rattle.vm_sim.specs.Report.{page_line}
use Rattle.vm_sim.proofs.moves.push_paged.Given as goal

-- the guests that are left complete the text
abbrev pub invariant-loop-paged : goal.invariant-loop-paged
invariant-loop-paged l =
    string_bytes l.text ++ flat_map (page_line l.host) (drop l.paged-index l.paging) ≡ string_bytes l.fn.text ++ flat_map (page_line l.host) l.paging
