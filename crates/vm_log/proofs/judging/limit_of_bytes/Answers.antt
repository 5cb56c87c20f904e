use Rattle.std.proofs.Common.{◌≡◌, ◌∙◌, ◌≤◌, ◌<◌, ◌^◌, List, ℕ, ap, arith, get_or, length, subst, sym}
use Rattle.vm_recorded.specs.declared.counts.Counts.{Counts}
use Rattle.vm_recorded.specs.Counts.{counts_for}
use Rattle.vm_recorded.specs.Hosts.{GuestView, HostView}
use Rattle.vm_log.proofs.JudgeLemmas.{few_bytes, short_names}
use Rattle.vm_log.proofs.judging.limit_of_bytes.Goals as goal

pub length_of-requires-clause-guests : goal.length_of-requires-clause-guests
length_of-requires-clause-guests c = omega (arith, ap (λ (h : HostView). length h.guests) c.host_of.ensures, c.requires.few)

pub length_of-requires-clause-counts : goal.length_of-requires-clause-counts
length_of-requires-clause-counts c = c.deref.ensures.value ∙ (c.requires.judged.counts ∙ ap (λ (h : HostView). counts_for h.guests) (sym c.host_of.ensures))

pub length_of-requires-clause-bytes : goal.length_of-requires-clause-bytes
length_of-requires-clause-bytes c =
    subst (λ (l : List Counts). (k : ℕ) (d : Counts) → k < length l → (get_or l k d).bytes ≤ 2 ^ 50) (sym c.deref.ensures.value)
    (few_bytes c.args.recording.now.epochs c.args.recording.now.counts.items c.requires.judged.small c.requires.judged.few)

pub length_of-requires-clause-names : goal.length_of-requires-clause-names
length_of-requires-clause-names c =
    subst (λ (l : List GuestView). (k : ℕ) (d : GuestView) → k < length l → length (get_or l k d).name ≤ 2 ^ 32) (sym (ap (λ (h : HostView). h.guests) c.host_of.ensures))
    (short_names c.args.recording.now.guests.items c.requires.judged.short)
