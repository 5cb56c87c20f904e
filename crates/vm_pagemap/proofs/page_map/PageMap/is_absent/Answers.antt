use Rattle.std.proofs.Common.{◌≡◌, true, false, length, ap, sym, ◌∙◌}
use Rattle.vm_pages.specs.Pages.{count, no_pages}
use Rattle.vm_pages.proofs.PageSets.{count-no_pages, no_pages-of_count}
use Rattle.vm_pagemap.specs.PageMap.{absent_pages}
use Rattle.vm_pagemap.proofs.AbsentPages.{none_in, none_out}
use Rattle.vm_pagemap.proofs.Kept.{pages_of-none, shown-length}
use Rattle.vm_pagemap.proofs.page_map.PageMap.is_absent.Goals as goal

pub returns-then-is_empty : goal.returns-then-is_empty
returns-then-is_empty c =
    let m = c.self.inside in
    let size = shown-length m c.args.self.now 0 c.self.view_is in
    let no_in = c.is_empty.ensures.0 c.if-is_empty.true in (
      λ empty.
          sym c.self.view_is
          ∙ pages_of-none m.resident m.out m.slots.list m.held.items (length c.args.self.now)
          (no_pages-of_count m.resident no_in ∙ ap no_pages size)
          (no_pages-of_count m.out (c.is_empty-then-is_empty.ensures.0 empty) ∙ ap no_pages (c.self.invariant.same_size ∙ size)),
      λ absent.
          c.is_empty-then-is_empty.ensures.1
          (ap count (none_out m.resident m.out m.slots.list m.held.items c.self.invariant.same_size (c.self.view_is ∙ absent ∙ ap absent_pages (sym size)))
          ∙ count-no_pages (length m.resident)),
    )

pub returns-else-is_empty : goal.returns-else-is_empty
returns-else-is_empty c =
    let m = c.self.inside in
    let size = shown-length m c.args.self.now 0 c.self.view_is in (
      λ empty. (let no : true ≡ false = sym empty ∙ c.if-is_empty.false in absurd (cc)),
      λ absent.
          c.is_empty.ensures.1
          (ap count (none_in m.resident m.out m.slots.list m.held.items (c.self.view_is ∙ absent ∙ ap absent_pages (sym size)))
          ∙ count-no_pages (length m.resident)),
    )
