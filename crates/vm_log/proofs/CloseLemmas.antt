-- The host of a recording, at the end of an epoch and without an open one.
use Rattle.std.proofs.Common.{◌≡◌, ◌∙◌, ℕ, zero, suc, ◌+◌, ◌-◌, ◌*◌, ◌<◌, ◌≤◌, List, [], ◌∷◌, ◌++◌, length, map, max, min, refl, sym, ap, subst, arith}
use Rattle.std.proofs.lemmas.List.{append-nil, length-append, length-map}
use Rattle.vm_recorded.specs.Counts.{counts_for, counts_of}
use Rattle.vm_recorded.specs.Hosts.{GuestView, HostView}
use Rattle.vm_samples.specs.Policies.{PolicyView}
use Rattle.vm_steer.specs.Entries.{EntryView}
use Rattle.vm_steer.specs.Names.{AreRising}
use Rattle.vm_log.specs.declared.recording.Recording.{Recording}
use Rattle.vm_log.specs.Alone.{AloneView}
use Rattle.vm_log.specs.Epochs.{epochs_of}
use Rattle.vm_log.specs.Growing.{hosted_in}
use Rattle.vm_log.specs.HostOf.{frames_for, guest_of, held_beside, host_of, is_among}
use Rattle.vm_log.specs.Judging.{AreShort, IsJudged}
use Rattle.vm_log.specs.NamesSeen.{guest_names, is_left, is_steered, left_names, names_from}
use Rattle.vm_log.specs.Recorded.{alone_for, kept_for, IsRecorded}
use Rattle.vm_log.specs.Sampling.{HasKept, HasTakenBack, IsReady}
use Rattle.vm_log.specs.Seen.{most_left}
use Rattle.vm_log.specs.Steps.{all_taken_back, alone_back, alone_names, frames_less, hosted, kept_all, kept_alone, names_of}
use Rattle.vm_log.specs.Told.{AreKeptSmall, AreSmall}
use Rattle.vm_log.proofs.AddLemmas.{ended-is, wide}
use Rattle.vm_log.proofs.CutLemmas.{length-epochs}
use Rattle.vm_log.proofs.GatherLemmas.{names-append, names-rising, never-left, none-rising, only, only-before}
use Rattle.vm_log.proofs.GrowLemmas.{alone-back, beside-back, beside-kept, frames-are, held-samples, kept-made, names-back}
use Rattle.vm_log.proofs.RecordLemmas.{all-back}

-- ---- the host of samples

other_way : (a b : ℕ) → a ≡ b → max a 1 ≡ max 1 b
other_way a b e = omega (arith, e)

-- by its guests, and by those beside, who may be more than were ever left alone
hosted-is : (policy : PolicyView) (every epochs : ℕ) (samples : List (List EntryView)) (guests : List GuestView) (beside : List AloneView) (left : List (List ℕ))
    → guests ≡ map (guest_of policy every samples) (guest_names samples) → beside ≡ map (alone_for samples samples) left
    → held_beside (guest_names samples) samples left ≡ held_beside (guest_names samples) samples (left_names samples) → epochs ≡ length (epochs_of every samples)
    → hosted policy epochs guests beside ≡ host_of policy every samples
unfolding host_of
hosted-is policy every epochs samples guests beside left is are held many =
    let names : names_of guests ≡ guest_names samples = ap names_of is ∙ names-back policy every samples (guest_names samples) in
    let less : frames_less (names_of guests) policy.memory beside ≡ policy.memory - held_beside (guest_names samples) samples (left_names samples) =
    (λ i. frames_less (names i) policy.memory (are i)) ∙ (frames-are (guest_names samples) samples samples policy.memory left ∙ ap (λ (n : ℕ). policy.memory - n) held) in
    let frames = other_way (frames_less (names_of guests) policy.memory beside) (policy.memory - held_beside (guest_names samples) samples (left_names samples)) less in
    λ i. record { policy = policy; frames = frames i; epochs = many i; guests = is i }

-- what was held in all samples is all that counts
same_alone : (closed all : List (List EntryView)) (guests : List (List ℕ)) (frames : ℕ) (left : List (List ℕ)) → frames_less guests frames (map (alone_for closed all) left) ≡ frames_less guests frames (map (alone_for all all) left)
same_alone closed all guests frames left = frames-are guests closed all frames left ∙ sym (frames-are guests all all frames left)

kept_small : (policy : PolicyView) (every epochs : ℕ) (all : List (List EntryView)) (names : List (List ℕ)) → AreSmall epochs (counts_for (map (guest_of policy every all) names)) → AreKeptSmall epochs (map (kept_for policy every all) names)
kept_small policy every epochs all [] small = tt
kept_small policy every epochs all (n ∷ names) small = (small.0, kept_small policy every epochs all names small.1)

module _ (policy : PolicyView) (every ended : ℕ) (some : 0 < every) (closed opened : List (List EntryView)) (old new : Recording) (was : IsRecorded policy every ended closed opened old) where
  -- ---- the host of all

  pub host-is : hosted_in policy old ≡ host_of policy every (closed ++ opened)
  unfolding host_of
  host-is =
      let all = closed ++ opened in
      let names : names_of old.guests.items ≡ guest_names all = ap names_of was.guests ∙ names-back policy every all (guest_names all) in
      let less : frames_less (names_of old.guests.items) policy.memory old.beside.items ≡ policy.memory - held_beside (guest_names all) all (left_names all) =
      (λ i. frames_less (names i) policy.memory (was.beside i)) ∙ frames-are (guest_names all) closed all policy.memory (left_names all) in
      let frames = other_way (frames_less (names_of old.guests.items) policy.memory old.beside.items) (policy.memory - held_beside (guest_names all) all (left_names all)) less in
      let many : old.epochs ≡ length (epochs_of every all) = was.epochs_is ∙ sym (wide every ended some closed opened was.whole was.fits) in
      λ i. record { policy = policy; frames = frames i; epochs = many i; guests = was.guests i }

  -- ---- the open epoch has ended

  pub recorded-kept : length opened ≡ every → HasKept old new → IsRecorded policy every (ended + 1) (closed ++ opened) [] new
  recorded-kept full kept =
      let all = closed ++ opened in
      let same : all ++ [] ≡ all = append-nil all in
      let counts : old.counts.items ≡ counts_for (map (guest_of policy every all) (guest_names all)) = was.counts ∙ ap counts_for was.guests in
      let is_kept : new.kept.items ≡ map (kept_for policy every all) (guest_names all) =
      kept.kept ∙ ((λ i. kept_all (was.guests i) (counts i) (was.kept i)) ∙ kept-made policy every closed all [] (guest_names all) refl) in
      record {
        whole = omega (arith, length-append closed opened, was.whole, full);
        open_is = kept.open_is;
        fits = omega arith;
        epochs_is = omega (arith, kept.epochs, was.epochs_is, full, some);
        few = omega (arith, kept.epochs, was.few);
        guests = kept.guests ∙ (was.guests ∙ (λ i. map (guest_of policy every (sym same i)) (guest_names (sym same i))));
        kept = is_kept ∙ ap (λ (l : List (List EntryView)). map (kept_for policy every all) (guest_names l)) (sym same);
        counts = kept.counts ∙ (was.counts ∙ ap counts_for (sym kept.guests));
        beside = kept.beside ∙ (ap (map kept_alone) was.beside ∙ (beside-kept closed all (left_names all) ∙ (λ i. map (alone_for all (sym same i)) (left_names (sym same i)))));
        short = subst AreShort (sym kept.guests) was.short;
        small = (let s = subst (λ (n : ℕ). AreSmall n old.counts.items) (sym kept.epochs) was.small in subst (AreSmall new.epochs) (sym kept.counts) s);
        kept_small =
            let n : old.epochs ≡ ended + 1 = omega (arith, was.epochs_is, full, some) in
            subst (AreKeptSmall (ended + 1)) (sym is_kept)
            (kept_small policy every (ended + 1) all (guest_names all) (subst (λ (e : ℕ). AreSmall e (counts_for (map (guest_of policy every all) (guest_names all)))) n (subst (AreSmall old.epochs) counts was.small)));
      }

  -- ---- the open epoch is taken back

  pub host-back : HasTakenBack policy old new → hosted_in policy new ≡ host_of policy every closed
  host-back back =
      let all = closed ++ opened in
      let steered : guest_names all ≡ names_from is_steered (guest_names closed) opened = names-append is_steered [] closed opened in
      let others : left_names all ≡ names_from is_left (left_names closed) opened = names-append is_left [] closed opened in
      let guests : new.guests.items ≡ map (guest_of policy every closed) (guest_names closed) =
      back.guests
      ∙ ((λ i. all_taken_back policy.most (was.kept i) (was.guests i))
      ∙ (all-back policy every ended some closed opened was.whole was.fits (guest_names all)
      ∙ ap (map (guest_of policy every closed)) (ap (only (is_among (guest_names closed))) steered ∙ only-before is_steered (guest_names closed) opened (names-rising is_steered [] closed none-rising)))) in
      let beside : new.beside.items ≡ map (alone_for closed closed) (left_names all) = back.beside ∙ (ap (map alone_back) was.beside ∙ beside-back closed all (left_names all)) in
      let held : held_beside (guest_names closed) closed (left_names all) ≡ held_beside (guest_names closed) closed (left_names closed) =
      ap (held_beside (guest_names closed) closed) others
      ∙ held-samples (guest_names closed) closed (left_names closed) opened (names-rising is_left [] closed none-rising) (λ name none. (never-left name [] closed none).1) in
      let many : new.epochs ≡ length (epochs_of every closed) = back.epochs ∙ (ended-is ended old.open (length opened) old.epochs was.open_is was.epochs_is ∙ sym (length-epochs every ended some closed was.whole)) in
      hosted-is policy every new.epochs closed new.guests.items new.beside.items (left_names all) guests beside held many

-- ---- it may be judged, and take one sample more

length_of_names : (policy : PolicyView) (every : ℕ) (samples : List (List EntryView)) (closed : List (List EntryView)) (names : List (List ℕ)) → length (map (kept_for policy every closed) names) ≡ length (map (guest_of policy every samples) names)
length_of_names policy every samples closed names = length-map names (kept_for policy every closed) ∙ sym (length-map names (guest_of policy every samples))

module _ (policy : PolicyView) (every ended : ℕ) (closed opened : List (List EntryView)) (r : Recording) (is : IsRecorded policy every ended closed opened r) where
  guests_rise : AreRising (names_of r.guests.items)
  guests_rise =
      subst AreRising (sym (ap names_of is.guests ∙ names-back policy every (closed ++ opened) (guest_names (closed ++ opened)))) (names-rising is_steered [] (closed ++ opened) none-rising)

  pub is-judged : IsJudged r
  is-judged = record { rising = guests_rise; counts = is.counts; short = is.short; few = is.few; small = is.small }

  pub as-many-kept : length r.kept.items ≡ length r.guests.items
  as-many-kept = ap length is.kept ∙ (length_of_names policy every (closed ++ opened) closed (guest_names (closed ++ opened)) ∙ sym (ap length is.guests))

  pub as-many-counts : length r.counts.items ≡ length r.guests.items
  as-many-counts = ap length is.counts ∙ length-map r.guests.items (λ (g : GuestView). counts_of g.uses)

  pub is-ready : every ≤ 10000 → r.epochs ≤ 10000 → IsReady r
  is-ready few_every few = record {
    guests = guests_rise;
    beside = subst AreRising (sym (ap alone_names is.beside ∙ alone-back closed (closed ++ opened) (left_names (closed ++ opened)))) (names-rising is_left [] (closed ++ opened) none-rising);
    kept = as-many-kept;
    counts = as-many-counts;
    few = few;
    open_few = omega (arith, is.open_is, is.fits, few_every);
    small = subst (λ (n : ℕ). AreKeptSmall n r.kept.items) (sym (ended-is ended r.open (length opened) r.epochs is.open_is is.epochs_is)) is.kept_small;
  }
