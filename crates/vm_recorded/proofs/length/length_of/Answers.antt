use Rattle.std.proofs.Common.{◌≡◌, ◌∙◌, ap}
use Rattle.vm_samples.specs.Policies.{PolicyView}
use Rattle.vm_recorded.specs.Hosts.{HostView, swap_for}
use Rattle.vm_recorded.specs.Lengths.{commands_bytes, guests_bytes}
use Rattle.vm_recorded.proofs.LengthLemmas.{text_parts}
use Rattle.vm_recorded.proofs.length.length_of.Goals as goal

pub returns : goal.returns
returns c =
    let guests_are : c.host.inside.guests.now ≡ c.args.host.now.guests = ap (λ (h : HostView). h.guests) c.host.view_is in
    let epochs_are : c.host.inside.epochs ≡ c.args.host.now.epochs = ap (λ (h : HostView). h.epochs) c.host.view_is in
    let unit_is : c.policy.inside.unit ≡ c.args.host.now.policy.unit =
    ap (λ (p : PolicyView). p.unit) c.policy.view_is ∙ ap (λ (h : HostView). h.policy.unit) c.host.view_is in
    text_parts c.args.host.now c.args.counts.now c.swap_for.result c.quantum_in-quantum.result c.head_len.result c.guests_len-guests.result
    c.commands_len-commands.result c.saturating_sub.result c.saturating_sub-2.result c.requires.counts
    (c.swap_for.ensures.exact ∙ ap swap_for guests_are) c.quantum_in-quantum.ensures c.head_len.ensures.exact
    (c.guests_len-guests.ensures.exact ∙ ap (guests_bytes c.quantum_in-quantum.result 0) guests_are)
    (c.commands_len-commands.ensures.exact ∙ (λ i. commands_bytes (unit_is i) (epochs_are i) (guests_are i)))
    c.saturating_sub.ensures c.saturating_sub-2.ensures
