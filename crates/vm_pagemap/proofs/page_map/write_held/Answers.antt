use Rattle.vm_pagemap.proofs.page_map.write_held.Goals as goal

pub returns-clause-frame : goal.returns-clause-frame
returns-clause-frame c = c.write.ensures
