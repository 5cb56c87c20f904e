use Rattle.std.proofs.Common.{length, ap, sym, ◌∙◌}
use Rattle.vm_pages.specs.Pages.{count, no_pages}
use Rattle.vm_pages.proofs.PageSets.{no_pages-of_count}
use Rattle.vm_pagemap.proofs.Kept.{pages_of-none, shown-length, shown-resident}
use Rattle.vm_pagemap.proofs.page_map.PageMap.clear.Goals as goal

pub returns : goal.returns
returns c =
    let size = shown-length c.self.inside c.args.self.now 0 c.self.view_is in
    let none = sym (ap count (shown-resident c.self.inside c.args.self.now 0 c.self.view_is)) ∙ c.requires in
    pages_of-none c.self.inside.resident c.clear.new.self c.self.inside.slots.list c.self.inside.held.items (length c.args.self.now)
    (no_pages-of_count c.self.inside.resident none ∙ ap no_pages size)
    (c.clear.ensures ∙ ap no_pages (c.self.invariant.same_size ∙ size))
