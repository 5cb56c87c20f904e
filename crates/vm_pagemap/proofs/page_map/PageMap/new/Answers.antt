use Rattle.std.proofs.Common.{ℕ, length, ap, ◌∙◌, arith}
use Rattle.std.proofs.lemmas.List.{length-replicate}
use Rattle.vm_pages.specs.PageTable.{Items}
use Rattle.vm_pagemap.proofs.Kept.{pages_of-none, IsKept-none}
use Rattle.vm_pagemap.proofs.page_map.PageMap.new.Goals as goal

pub invariant_of-result : goal.invariant_of-result
invariant_of-result c =
    IsKept-none _ c.args.size c.in_ok-resident.ensures.set c.in_ok-out.ensures.set (ap (λ (t : Items ℕ). length t.list) c.in_ok-slots.ensures.table ∙ length-replicate c.args.size 0) c.in_ok-held.ensures.items (omega arith) c.in_ok-held.ensures.capacity

pub returns-clause-map : goal.returns-clause-map
returns-clause-map c =
    pages_of-none c.in_ok-resident.resident c.in_ok-out.out c.in_ok-slots.slots.list c.in_ok-held.held.items c.args.size c.in_ok-resident.ensures.set c.in_ok-out.ensures.set
