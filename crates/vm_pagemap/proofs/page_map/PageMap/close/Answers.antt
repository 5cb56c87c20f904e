use Rattle.std.proofs.Common.{ap, arith}
use Rattle.vm_pages.specs.Pages.{count}
use Rattle.vm_pagemap.proofs.Kept.{shown-resident}
use Rattle.vm_pagemap.proofs.page_map.PageMap.close.Goals as goal

pub destroy_empty-requires : goal.destroy_empty-requires
destroy_empty-requires c =
    let none = ap count (shown-resident c.self.inside c.args.self 0 c.self.view_is) in
    omega (arith, c.self.invariant.counted, none, c.requires, c.self.inside.held.ok.0)
