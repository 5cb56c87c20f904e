use Rattle.std.proofs.Common.{◌<◌, ap, sym, ◌∙◌, get_or, length, arith}
use Rattle.vm_pages.specs.Pages.{count, members}
use Rattle.vm_pagemap.proofs.Kept.{shown-length, shown-in, shown-resident}
use Rattle.vm_pagemap.proofs.page_map.PageMap.resident_at.Goals as goal

pub nth-requires : goal.nth-requires
nth-requires c =
    let same = ap count (shown-resident c.self.inside c.args.self.now 0 c.self.view_is) in
    omega (arith, c.requires, same)

pub returns-clause-listed : goal.returns-clause-listed
returns-clause-listed c =
    c.nth.ensures.listed ∙ ap (λ s. get_or (members s) c.args.k 0) (sym (shown-resident c.self.inside c.args.self.now 0 c.self.view_is))

pub returns-clause-in_range : goal.returns-clause-in_range
returns-clause-in_range c = omega (arith, c.nth.ensures.in_range, shown-length c.self.inside c.args.self.now 0 c.self.view_is)

pub returns-clause-is_in : goal.returns-clause-is_in
returns-clause-is_in c =
    let there : c.nth.result < length c.args.self.now = omega (arith, c.nth.ensures.in_range, shown-length c.self.inside c.args.self.now 0 c.self.view_is) in
    shown-in c.self.inside c.args.self.now c.nth.result c.self.view_is there ∙ c.nth.ensures.there
