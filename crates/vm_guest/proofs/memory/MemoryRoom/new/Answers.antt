use Rattle.std.proofs.Common.{◌≡◌, length, sym, ap, ◌∙◌}
use Rattle.std.specs.FinMap as slots
use Rattle.vm_pagemap.specs.PageMap.{absent_pages}
use Rattle.vm_pagemap.proofs.Resident.{length-absent_pages}
use Rattle.vm_swap.specs.Area.{Area}
use Rattle.vm_guest.proofs.memory.MemoryRoom.new.Goals as goal

pub returns-in-Ok : goal.returns-in-Ok
returns-in-Ok c =
    let area = c.in_ok-swap.ensures in
    let size : length c.in-Ok.pages ≡ c.args.size = ap length c.in-Ok.ensures.map ∙ length-absent_pages c.args.size in
    let capacity = ap (λ (a : Area). a.capacity) area in
    record {
      room = record {
        few_pages = rw size c.requires;
        pages = c.in-Ok.ensures.map ∙ ap absent_pages (sym size);
        swap = area ∙ sym (ap (λ n. record { pages = slots.empty; capacity = n }) capacity);
        spares = c.in_ok-spares.ensures.items;
        room = rw size c.in_ok-spares.ensures.capacity;
      };
      pages = size;
      slots = capacity;
    }
