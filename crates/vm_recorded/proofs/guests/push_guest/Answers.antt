use Rattle.std.proofs.Common.{◌∙◌, [], ◌∷◌, codes, ap}
use Rattle.vm_recorded.specs.Hosts.{GuestView}
use Rattle.vm_recorded.specs.Parts.{ended}
use Rattle.vm_recorded.specs.Texts.{guest_text, steps_text}
use Rattle.vm_recorded.proofs.ChainLemmas.{ends_with, guest_made}
use Rattle.vm_recorded.proofs.guests.push_guest.Goals as goal

pub returns : goal.returns
returns c =
    let old = c.args.text.now.items in
    let before = c.push_steps.new.text.items in
    ends_with c.extend_from_slice.result c.extend_from_slice.new.self.items before (codes "]},") old
    (ended (guest_text c.args.quantum c.args.number c.args.guest.now ∷ [])) c.extend_from_slice.ensures.items
    (guest_made c.args.quantum c.args.number c.args.guest.now old c.push_head.new.text.items before (steps_text c.deref.result.now)
    (ap steps_text c.deref.ensures.value ∙ ap (λ (g : GuestView). steps_text g.uses) c.guest.view_is) c.in_ok-push_head.ensures
    c.in_ok-push_steps.ensures)
