-- A recording with one sample more is of one sample more.
use Rattle.std.proofs.Common.{◌≡◌, ◌∙◌, ℕ, zero, suc, ◌+◌, ◌-◌, ◌*◌, ◌==◌, ◌<◌, ◌≤◌, Bool, true, false, List, [], ◌∷◌, ◌++◌, length, map, min, append_assoc, refl, sym, ap, subst, arith, if◌then◌else◌}
use Rattle.std.proofs.lemmas.List.{append-nil, length-append}
use Rattle.vm_recorded.specs.Counts.{counts_for}
use Rattle.vm_recorded.specs.Hosts.{GuestView}
use Rattle.vm_samples.specs.Policies.{PolicyView}
use Rattle.vm_steer.specs.declared.fate.Fate.{Fate}
use Rattle.vm_steer.specs.declared.fate.Fate.TheVariants.{Left, Steered}
use Rattle.vm_steer.specs.Entries.{EntryView}
use Rattle.vm_steer.specs.Names.{AreRising}
use Rattle.vm_log.specs.declared.kept.Kept.{Kept}
use Rattle.vm_log.specs.declared.recording.Recording.{Recording}
use Rattle.vm_log.specs.Epochs.{epochs_of}
use Rattle.vm_log.specs.Growing.{growing_in}
use Rattle.vm_log.specs.HostOf.{guest_of}
use Rattle.vm_log.specs.Judging.{AreShort}
use Rattle.vm_log.specs.NamesSeen.{guest_names, is_left, is_steered, left_names, names_from, with_names}
use Rattle.vm_log.specs.Recorded.{alone_for, kept_for, IsRecorded}
use Rattle.vm_log.specs.Sampling.{ended_by, HasAdded}
use Rattle.vm_log.specs.Steps.{counted_all, raised_all, raised_alone, with_entries, Growing}
use Rattle.vm_log.specs.Told.{AreFew, AreKeptSmall}
use Rattle.vm_log.proofs.CutLemmas.{length-epochs, length-epochs-open}
use Rattle.vm_log.proofs.GatherLemmas.{names-append, names-rising, none-rising}
use Rattle.vm_log.proofs.GrowLemmas.{all-in, beside-more, grown, AreAll}
use Rattle.vm_log.proofs.GuestLemmas.{not_zero}
use Rattle.vm_log.proofs.RecordLemmas.{all-counted, all-more}
use Rattle.vm_log.proofs.ShortLemmas.{short_more}

-- ---- how many epochs have ended

pub ended-is : (ended many opened epochs : ℕ) → many ≡ opened → epochs ≡ ended + min 1 opened → ended_by many epochs ≡ ended
ended-is ended zero opened epochs is are = omega (arith, is, are)
ended-is ended (suc many) opened epochs is are = let test : (suc many == 0) ≡ false = not_zero (suc many) (omega arith) in rw test (omega (arith, is, are))

pub wide : (every ended : ℕ) (some : 0 < every) (closed opened : List (List EntryView)) → length closed ≡ ended * every → length opened ≤ every → length (epochs_of every (closed ++ opened)) ≡ ended + min 1 (length opened)
wide every ended some closed [] whole fits =
    ap (λ (l : List (List EntryView)). length (epochs_of every l)) (append-nil closed) ∙ (length-epochs every ended some closed whole ∙ (let e : ended ≡ ended + min 1 0 = omega arith in e))
wide every ended some closed (s ∷ opened) whole fits =
    length-epochs-open every ended some closed (s ∷ opened) whole (omega arith) fits ∙ (let e : suc ended ≡ ended + min 1 (length (s ∷ opened)) = omega arith in e)

module _ (policy : PolicyView) (every ended : ℕ) (some : 0 < every) (closed opened : List (List EntryView)) (s : List EntryView) (old new : Recording)
    (was : IsRecorded policy every ended closed opened old) (room : length opened < every) (few : old.epochs ≤ 10000) (added : HasAdded policy s old new) (short : AreFew s) where
  names : List (List ℕ)
  names = guest_names (closed ++ opened)

  left : List (List ℕ)
  left = left_names (closed ++ opened)

  ended_now : ended_by old.open old.epochs ≡ ended
  ended_now = ended-is ended old.open (length opened) old.epochs was.open_is was.epochs_is

  all : AreAll closed opened names left
  unfolding names left
  all = record {
    rising = names-rising is_steered [] (closed ++ opened) none-rising;
    left_rising = names-rising is_left [] (closed ++ opened) none-rising;
    guests = λ name none. none;
    beside = λ name none. none;
  }

  more_names : with_names is_steered names s ≡ guest_names (closed ++ (opened ++ s ∷ []))
  unfolding names
  more_names = sym (names-append is_steered [] (closed ++ opened) (s ∷ [])) ∙ ap guest_names (append_assoc closed opened (s ∷ []))

  more_left : with_names is_left left s ≡ left_names (closed ++ (opened ++ s ∷ []))
  unfolding left
  more_left = sym (names-append is_left [] (closed ++ opened) (s ∷ [])) ∙ ap left_names (append_assoc closed opened (s ∷ []))

  old_guests : old.guests.items ≡ map (guest_of policy every (closed ++ opened)) names
  unfolding names
  old_guests = was.guests

  grown_now : growing_in old ≡ grown policy every closed opened names left
  unfolding names left
  grown_now = λ i. record { guests = was.guests i; kept = was.kept i; beside = was.beside i }

  grown_then : with_entries policy old.epochs (ended_by old.open old.epochs) s (growing_in old)
      ≡ grown policy every closed opened (guest_names (closed ++ (opened ++ s ∷ []))) (left_names (closed ++ (opened ++ s ∷ [])))
  grown_then =
      (λ i. with_entries policy old.epochs (ended_now i) s (grown_now i))
      ∙ (all-in policy every old.epochs ended closed opened (wide every ended some closed opened was.whole was.fits ∙ sym was.epochs_is) (length-epochs every ended some closed was.whole) names left s all
      ∙ (λ i. grown policy every closed opened (more_names i) (more_left i)))

  guests_then : new.guests.items ≡ map (guest_of policy every (closed ++ (opened ++ s ∷ []))) (guest_names (closed ++ (opened ++ s ∷ [])))
  guests_then =
      added.guests
      ∙ ((λ i. raised_all policy.most (ended_now i) s ((added.kept ∙ ap (λ (g : Growing). g.kept) grown_then) i) (grown_then i).guests)
      ∙ all-more policy every ended some closed opened was.whole s room (guest_names (closed ++ (opened ++ s ∷ []))))

  kept_then : new.kept.items ≡ map (kept_for policy every closed) (guest_names (closed ++ (opened ++ s ∷ [])))
  kept_then = added.kept ∙ ap (λ (g : Growing). g.kept) grown_then

  pub recorded-more : IsRecorded policy every ended closed (opened ++ s ∷ []) new
  recorded-more =
      let l = length-append opened (s ∷ []) in
      record {
        whole = was.whole;
        open_is = omega (arith, added.open_is, was.open_is, l);
        fits = omega (arith, l, room);
        epochs_is = omega (arith, added.epochs, ended_now, l);
        few = omega (arith, added.epochs, ended_now, was.epochs_is, few);
        guests = guests_then;
        kept = kept_then;
        counts = added.counts ∙ ((λ i. counted_all (ended_now i) (kept_then i) (guests_then i)) ∙ (all-counted policy every ended some closed opened was.whole s room (guest_names (closed ++ (opened ++ s ∷ []))) ∙ ap counts_for (sym guests_then)));
        beside = added.beside ∙ (ap (λ (g : Growing). map (raised_alone s) g.beside) grown_then ∙ beside-more closed opened s (left_names (closed ++ (opened ++ s ∷ []))));
        short = subst AreShort (sym guests_then) (subst (λ (ns : List (List ℕ)). AreShort (map (guest_of policy every (closed ++ (opened ++ s ∷ []))) ns)) more_names
            (short_more policy every (closed ++ opened) (closed ++ (opened ++ s ∷ [])) names s short (subst AreShort old_guests was.short)));
        small = added.small;
        kept_small = subst (λ (n : ℕ). AreKeptSmall n new.kept.items) ended_now added.kept_small;
      }
