use Rattle.std.proofs.Common.{sym}
use Rattle.vm_pages.proofs.PlaceLemmas.{length-items_of}
use Rattle.vm_pages.proofs.page_table.PageTable.len.Goals as goal

pub returns : goal.returns
returns g c = let inside = c.self.inside in rw (← c.self.view_is) (sym (length-items_of inside.size inside.first inside.blocks.items inside.items.items))
