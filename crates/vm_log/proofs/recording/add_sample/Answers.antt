use Rattle.std.proofs.Common.{◌≡◌, ◌∙◌, ◌+◌, List, ℕ, ap, arith, map, subst, sym}
use Rattle.std.proofs.lemmas.List.{with_items_is}
use Rattle.vm_recorded.specs.declared.counts.Counts.{Counts}
use Rattle.vm_log.specs.declared.kept.Kept.{Kept}
use Rattle.vm_log.specs.Alone.{AloneView}
use Rattle.vm_log.specs.Growing.{growing_in}
use Rattle.vm_log.specs.Sampling.{ended_by}
use Rattle.vm_log.specs.Steps.{counted_all, raised_all, raised_alone, with_entries, Growing}
use Rattle.vm_log.specs.Told.{AreKeptSmall, AreSmall}
use Rattle.vm_log.proofs.GrowLemmas.{entries_small}
use Rattle.vm_log.proofs.recording.add_sample.Goals as goal

pub count_all-requires-clause-small : goal.count_all-requires-clause-small
count_all-requires-clause-small c =
    let old = c.args.recording.now in
    let closed = c.ended_by-closed.result in
    subst (AreKeptSmall closed) (sym (c.deref-2.ensures.value ∙ ap (λ (g : Growing). g.kept) c.in_ok-add_all.ensures.added))
    (entries_small closed c.args.policy.now old.epochs closed c.args.entries.now (growing_in old) (subst (λ (n : ℕ). AreKeptSmall n old.kept.items) (sym c.ended_by-closed.ensures) c.requires.ready.small))

pub returns : goal.returns
returns c =
    let old = c.args.recording.now in
    let closed = c.ended_by-closed.result in
    let ended = ended_by old.open old.epochs in
    let is : closed ≡ ended = c.ended_by-closed.ensures in
    let added : growing_in c.add_all.new.recording ≡ with_entries c.args.policy.now old.epochs ended c.args.entries.now (growing_in old) =
    c.in_ok-add_all.ensures.added ∙ ap (λ (n : ℕ). with_entries c.args.policy.now old.epochs n c.args.entries.now (growing_in old)) is in
    let kept = ap (λ (g : Growing). g.kept) added in
    let guests_back = with_items_is c.add_all.new.recording.guests c.raise_all.new.guests (omega (arith, c.raise_all.auto.guests, c.deref_mut.ensures.len)) in
    let counts_back = with_items_is c.add_all.new.recording.counts c.count_all.new.counts (omega (arith, c.count_all.auto.counts, c.deref_mut-2.ensures.len)) in
    let beside_back = with_items_is c.add_all.new.recording.beside c.raise_beside.new.beside (omega (arith, c.raise_beside.auto.beside, c.deref_mut-3.ensures.len)) in
    record {
      kept = kept;
      guests = guests_back ∙ (c.in_ok-raise_all.ensures ∙ (λ i. raised_all c.args.policy.now.most (is i) c.args.entries.now (c.deref.ensures.value i) ((c.deref_mut.ensures.value ∙ ap (λ (g : Growing). g.guests) added) i)));
      counts = counts_back ∙ (c.count_all.ensures.exact ∙ (λ i. counted_all (is i) (c.deref-2.ensures.value i) (c.deref-3.ensures.value i)));
      beside = beside_back ∙ (c.raise_beside.ensures ∙ ap (map (raised_alone c.args.entries.now)) (c.deref_mut-3.ensures.value ∙ ap (λ (g : Growing). g.beside) added));
      epochs = ap (λ (n : ℕ). n + 1) is;
      open_is = ap (λ (n : ℕ). n + 1) c.add_all.ensures.samples;
      small = subst (AreSmall (closed + 1)) (sym counts_back) c.count_all.ensures.small;
      kept_small = subst (AreKeptSmall ended) (sym kept) (entries_small ended c.args.policy.now old.epochs ended c.args.entries.now (growing_in old) c.requires.ready.small);
    }
