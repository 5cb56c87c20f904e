use Rattle.std.proofs.Common.{refl, ap, ◌∙◌, arith}
use Rattle.vm_balloon.specs.Device.{device_of}
use Rattle.vm_pages.specs.Pages.{no_pages}
use Rattle.vm_guest.proofs.start.last_parts.Goals as goal

pub returns-clause-room : goal.returns-clause-room
returns-clause-room c =
    let sound = c.requires.sound in
    let tied = c.requires.tied in
    record {
      used = c.clear.ensures ∙ ap no_pages sound.used_size;
      device = c.reset.ensures ∙ (λ i. device_of (sound.device.size_is i) (sound.device.buffers_are i));
      sampling = refl;
      words = refl;
      used_early = c.clear-2.ensures.items;
      early_room = omega (arith, c.clear-2.ensures.capacity, tied.early_room);
      reads = c.clear-3.ensures.items;
      pages_room = tied.pages_room;
    }
