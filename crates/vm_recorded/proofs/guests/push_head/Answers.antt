use Rattle.std.proofs.Common.{◌∙◌, codes, ap}
use Rattle.vm_recorded.specs.Hosts.{GuestView}
use Rattle.vm_recorded.specs.Pieces.{guest_pieces}
use Rattle.vm_recorded.specs.Texts.{autostart}
use Rattle.vm_recorded.proofs.ChainLemmas.{ends_with, pieces_made}
use Rattle.vm_recorded.proofs.guests.push_head.Goals as goal

pub returns : goal.returns
returns c =
    let old = c.args.text.now.items in
    let before = c.extend_from_slice-4.new.self.items in
    ends_with c.extend_from_slice-5.result c.extend_from_slice-5.new.self.items before (codes ",\"tell\":false,\"trace\":[") old
    (guest_pieces c.args.quantum c.args.number c.args.guest.now) c.extend_from_slice-5.ensures.items
    (pieces_made c.args.quantum c.args.number c.args.guest.now c.deref.result.now c.autostart.result.now old c.extend_from_slice.new.self.items
    c.extend_from_slice-2.new.self.items c.push_labelled.new.text.items c.push_labelled-2.new.text.items c.push_labelled-3.new.text.items
    c.push_labelled-4.new.text.items c.push_labelled-5.new.text.items c.extend_from_slice-3.new.self.items before c.from.result c.from-2.result
    c.from-3.result (c.deref.ensures.value ∙ ap (λ (g : GuestView). g.name) c.guest.view_is)
    (c.autostart.ensures ∙ ap (λ (g : GuestView). autostart g.first) c.guest.view_is)
    (c.from.ensures ∙ ap (λ (g : GuestView). g.size) c.guest.view_is) (c.from-2.ensures ∙ ap (λ (g : GuestView). g.min) c.guest.view_is)
    (c.from-3.ensures ∙ ap (λ (g : GuestView). g.shares) c.guest.view_is) c.in_ok-extend_from_slice.ensures.items
    c.in_ok-extend_from_slice-2.ensures.items c.in_ok-push_labelled.ensures c.in_ok-push_labelled-2.ensures c.in_ok-push_labelled-3.ensures
    c.in_ok-push_labelled-4.ensures c.in_ok-push_labelled-5.ensures c.in_ok-extend_from_slice-3.ensures.items
    c.in_ok-extend_from_slice-4.ensures.items)
