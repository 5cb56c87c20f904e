use Rattle.std.proofs.Common.{◌≡◌, All, [], map, drop, bytes_eq, vec_len}
use Rattle.std.specs.List.{IsDistinct}
use Rattle.vm_json.specs.View.{view}
use Rattle.vm_samples.specs.Policies.{IsGuestPolicy, names_of}
use Rattle.vm_samples.specs.PolicyOf.{guests_at}
use Rattle.vm_samples.proofs.guests.guests_at.Given as goal

-- the objects that are left go on from the guests so far to the same answer
abbrev pub invariant-loop-object : goal.invariant-loop-object
invariant-loop-object l = record {
  completes : guests_at l.unit (map view (drop l.object-index l.objects)) l.guests.items ≡ guests_at l.unit (map view l.objects) [];
  count : vec_len l.guests ≡ l.object-index;
  within : All IsGuestPolicy l.guests.items;
  names_differ : IsDistinct bytes_eq (names_of l.guests.items);
}
