use Rattle.std.proofs.Common.{◌∙◌, ap, length}
use Rattle.vm_pagemap.specs.PageMap.{resident}
use Rattle.vm_pagemap.proofs.Resident.{count-resident_absent_pages}
use Rattle.vm_pages.specs.Pages.{count}
use Rattle.vm_guest.proofs.memory.MemoryRoom.close.Goals as goal

pub close-requires : goal.close-requires
close-requires c = ap (λ pages. count (resident pages)) c.requires.pages ∙ count-resident_absent_pages (length c.args.self.pages)
