use Rattle.std.proofs.Common.{ap, sym, ◌∙◌}
use Rattle.vm_pages.specs.Pages.{count}
use Rattle.vm_pagemap.proofs.Kept.{shown-resident}
use Rattle.vm_pagemap.proofs.page_map.PageMap.resident.Goals as goal

pub returns : goal.returns
returns c = c.len.ensures ∙ ap count (sym (shown-resident c.self.inside c.args.self.now 0 c.self.view_is))
