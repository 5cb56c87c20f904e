use Rattle.std.proofs.Common.{◌≡◌, ◌≤◌, ◌+◌, map, length}
use Rattle.vm_json.specs.View.{view}
use Rattle.vm_config.specs.Guests.{no_guests}
use Rattle.vm_domains.specs.Limits.{AreWithinLimits}
use Rattle.vm_config.specs.Located.{guests_at}
use Rattle.vm_config.proofs.guests.guests.Given as goal

-- the objects that are left go on from the guests so far to the same answer
abbrev pub invariant-loop-object : goal.invariant-loop-object
invariant-loop-object l = record {
  completes : guests_at l.limits l.quantum l.page (map view l.object-iterator.rest.items) l.guests
      ≡ guests_at l.limits l.quantum l.page (map view l.fn.objects.items) no_guests;
  count : length l.guests.domains + length l.object-iterator.rest.items ≤ 256;
  within : AreWithinLimits l.guests.domains;
  autostart : length l.guests.autostart ≡ length l.guests.domains;
}
