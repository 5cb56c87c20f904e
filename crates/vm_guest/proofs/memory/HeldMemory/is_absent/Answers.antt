use Rattle.std.proofs.Common.{◌≡◌, ◌<◌, ◌≤◌, length, sym, ap, ◌∙◌, arith}
use Rattle.std.proofs.lemmas.List.{get_or-replicate, length-map}
use Rattle.vm_pagemap.specs.PageMap.{page_at}
use Rattle.vm_pagemap.specs.declared.page_map.Page.TheVariants.{Absent}
use Rattle.vm_guest.specs.Holding.{Holding}
use Rattle.vm_guest.proofs.ChangeLemmas.{given_up_absent}
use Rattle.vm_guest.proofs.memory.HeldMemory.is_absent.Goals as goal

pub returns : goal.returns
returns c = λ absent page inside.
    let m = c.self.inside in
    let there = simp length-map at (rw (← c.self.view_is) at inside) in
    let nowhere : page_at m.pages page ≡ Absent = ap (λ pages. page_at pages page) (c.is_absent.ensures.0 absent) ∙ get_or-replicate (length m.pages) page Absent Absent there in
    rw (← c.self.view_is) (sym (ap (λ (h : Holding). h.memory) (given_up_absent m.pages m.swap m.spares.items page there nowhere c.self.invariant.holding).is))
