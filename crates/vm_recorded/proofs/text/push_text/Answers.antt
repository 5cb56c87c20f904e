use Rattle.std.proofs.Common.{◌∙◌, codes, ap}
use Rattle.vm_samples.specs.Policies.{PolicyView}
use Rattle.vm_recorded.specs.Hosts.{HostView}
use Rattle.vm_recorded.specs.Pieces.{text_with}
use Rattle.vm_recorded.proofs.ChainLemmas.{ends_with, text_made}
use Rattle.vm_recorded.proofs.text.push_text.Goals as goal

pub returns : goal.returns
returns c =
    let old = c.args.text.now.items in
    let before = c.push_commands.new.text.items in
    let host = c.args.host.now in
    ends_with c.extend_from_slice-2.result c.extend_from_slice-2.new.self.items before (codes "]}\n") old
    (text_with c.args.swap c.args.quantum host) c.extend_from_slice-2.ensures.items
    (text_made host c.host.inside.guests.now c.args.swap c.args.quantum c.policy.inside.unit c.host.inside.epochs old c.push_head.new.text.items
    c.push_guests.new.text.items c.extend_from_slice.new.self.items before (ap (λ (h : HostView). h.guests) c.host.view_is)
    (ap (λ (p : PolicyView). p.unit) c.policy.view_is ∙ ap (λ (h : HostView). h.policy.unit) c.host.view_is)
    (ap (λ (h : HostView). h.epochs) c.host.view_is) c.in_ok-push_head.ensures c.in_ok-push_guests.ensures
    c.in_ok-extend_from_slice.ensures.items c.in_ok-push_commands.ensures)
