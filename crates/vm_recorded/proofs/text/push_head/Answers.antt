use Rattle.std.proofs.Common.{◌∙◌, codes, ap}
use Rattle.vm_recorded.specs.Hosts.{HostView}
use Rattle.vm_recorded.specs.Pieces.{head_with}
use Rattle.vm_recorded.proofs.ChainLemmas.{ends_with, head_made}
use Rattle.vm_recorded.proofs.text.push_head.Goals as goal

pub returns : goal.returns
returns c =
    let old = c.args.text.now.items in
    let before = c.push_labelled-4.new.text.items in
    let host = c.args.host.now in
    ends_with c.extend_from_slice.result c.extend_from_slice.new.self.items before (codes ",\"guests\":[") old
    (head_with c.args.swap c.args.quantum host) c.extend_from_slice.ensures.items
    (head_made host c.host.inside.policy.now c.args.swap c.args.quantum c.from.result c.from-2.result old c.push_labelled.new.text.items
    c.push_labelled-2.new.text.items c.push_rules.new.text.items c.push_labelled-3.new.text.items before
    (c.from.ensures ∙ ap (λ (h : HostView). h.frames) c.host.view_is) (ap (λ (h : HostView). h.policy) c.host.view_is)
    (c.from-2.ensures ∙ ap (λ (h : HostView). h.epochs) c.host.view_is) c.in_ok-push_labelled.ensures c.in_ok-push_labelled-2.ensures
    c.in_ok-push_rules.ensures c.in_ok-push_labelled-3.ensures c.in_ok-push_labelled-4.ensures)
