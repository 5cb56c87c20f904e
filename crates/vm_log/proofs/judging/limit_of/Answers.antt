use Rattle.std.proofs.Common.{◌≡◌, ◌∙◌, List, ap, length, sym}
use Rattle.vm_recorded.specs.declared.counts.Counts.{Counts}
use Rattle.vm_recorded.specs.Hosts.{GuestView}
use Rattle.vm_recorded.specs.Limits.{limit_by, longest_epoch, most_steps}
use Rattle.vm_recorded.proofs.LimitLemmas.{limit_of_by}
use Rattle.vm_log.specs.Growing.{hosted_in}
use Rattle.vm_log.specs.Judging.{longest_of, steps_of}
use Rattle.vm_log.proofs.CountingLemmas.{longest_for, steps_for}
use Rattle.vm_log.proofs.judging.limit_of.Goals as goal

pub returns : goal.returns
returns c = λ policy.
    let guests = c.args.recording.now.guests.items in
    let many : length c.deref-guests.result.now ≡ length guests = ap (λ (l : List GuestView). length l) c.deref-guests.ensures.value in
    let steps : c.most_steps.result ≡ most_steps guests = c.most_steps.ensures ∙ (ap steps_of (c.deref-counts.ensures.value ∙ c.requires.counts) ∙ steps_for guests) in
    let longest : c.longest_epoch.result ≡ longest_epoch guests = c.longest_epoch.ensures ∙ (ap longest_of (c.deref-counts.ensures.value ∙ c.requires.counts) ∙ longest_for guests) in
    c.limit_by.ensures ∙ ((λ i. limit_by (c.from.ensures i) (many i) (steps i) (longest i)) ∙ sym (limit_of_by (hosted_in policy c.args.recording.now)))
