use Rattle.std.proofs.Common.{◌∙◌, ◌+◌, ◌∷◌, [], List, All, map, drop, length, bytes_eq, length-append, sym, ap, subst, arith}
use Rattle.std.proofs.lemmas.List.Elements.{All-push}
use Rattle.std.specs.List.{IsDistinct}
use Rattle.vm_json.specs.View.{view}
use Rattle.vm_samples.specs.Policies.{GuestPolicyView, IsGuestPolicy, names_of}
use Rattle.vm_samples.specs.PolicyOf.{guest_at, guests_at, has_name}
use Rattle.vm_samples.proofs.GuestLemmas.{guests_step, names_push, no_names}
use Rattle.vm_samples.proofs.guests.guests_at.Goals as goal

pub loop-object-init : goal.loop-object-init
loop-object-init c =
    let none = c.new-guests.ensures.items in
    record {
      completes = ap (guests_at c.args.unit (map view c.args.objects.now)) none;
      count = c.new-guests.ensures.len;
      within = λ k d below. absurd (omega (arith, below, ap length none));
      names_differ = subst (λ (gs : List GuestPolicyView). IsDistinct bytes_eq (names_of gs)) (sym none) no_names;
    }

pub loop-object-preserved : goal.loop-object-preserved
loop-object-preserved c =
    let unit = c.args.unit in
    let objects = c.args.objects.now in
    let i = c.loop-object.object-index in
    let guests = c.loop-object.guests.items in
    let guest = c.in_ok-guest.guest in
    let object = c.object-item.result in
    let items = c.in_ok-add.ensures in
    let read = ap (λ (gs : List GuestPolicyView). guest_at unit gs (view object)) (sym c.deref.ensures.value) ∙ c.in_ok-guest.ensures.guest in
    let new = ap (λ (gs : List GuestPolicyView). has_name guest.name gs) (sym c.deref.ensures.value) ∙ c.in_ok-guest.ensures.new_name in
    record {
      completes = ap (guests_at unit (map view (drop (i + 1) objects))) items
          ∙ guests_step unit objects i object guests guest c.loop-object-test.true c.object-item.is read ∙ c.loop-object.invariant.completes;
      count = omega (arith, ap length items, length-append guests (guest ∷ []), c.add.new.guests.ok.0, c.loop-object.guests.ok.0, c.loop-object.invariant.count);
      within = subst (All IsGuestPolicy) (sym items) (All-push IsGuestPolicy guests guest c.loop-object.invariant.within c.in_ok-guest.ensures.within);
      names_differ = subst (λ (gs : List GuestPolicyView). IsDistinct bytes_eq (names_of gs)) (sym items) (names_push guests guest c.loop-object.invariant.names_differ new);
    }
