-- An interval that is under way.
use Rattle.std.proofs.Common.{◌≡◌, ◌∙◌, ℕ, zero, suc, ◌+◌, ◌*◌, ◌≤◌, List, [], ◌∷◌, ◌++◌, length, drop, refl, sym, ap, subst, arith, append_assoc}
use Rattle.std.proofs.Math.Seq.{drop-append_seam}
use Rattle.std.proofs.lemmas.List.{append-nil, map-append}
use Rattle.vm_import.specs.declared.access.Access.{Access}
use Rattle.vm_import.specs.declared.touch.RankedTouch.{RankedTouch}
use Rattle.vm_import.specs.WorkingSets.{Extends, GoesOn as SetGoesOn, WorkingSetView, working_set}
use Rattle.vm_import.specs.Drafts.{DraftView, with_steps}
use Rattle.vm_import.specs.Guests.{Guest, guest_of}
use Rattle.vm_import.specs.Limits.{passed_by}
use Rattle.vm_import.specs.Progress.{IsDraft, IsUnderWay, guest_with, idle_next, kept_of, limit_of}
use Rattle.vm_import.specs.Settings.{Settings}
use Rattle.vm_import.specs.Steps.{idle_steps, step_of, steps_of}
use Rattle.vm_import.specs.Touched.{touched_by, touches_in}
use Rattle.vm_import.proofs.GuestLemmas.{guest_of-more}
use Rattle.vm_import.proofs.IntervalLemmas.{touches_in-append}
use Rattle.vm_import.proofs.TextLemmas.{IsDraft-more, larger, limit_of-draft}

-- how many whole intervals there are before this one
pub count_before : (lines number long : ℕ) → 1 ≤ lines → long + lines ≡ number * lines → (count : ℕ) × (number ≡ count + 1) × (long ≡ count * lines)
count_before lines zero long some whole = absurd (omega (arith, whole))
count_before lines (suc count) long some whole = (count, omega arith, omega (arith, whole))

module _ (settings : Settings) (before : List Access) (number : ℕ) where
  pub guest_with-size : (set : WorkingSetView) → (guest_with settings before number set).size ≡ length set.pages
  unfolding guest_with
  guest_with-size set = refl

  -- the guest of a working set that keeps more
  guest_with-more : (old new : WorkingSetView) (more : List RankedTouch) → new.kept ≡ old.kept ++ more
      → guest_with settings before number new ≡ larger settings (guest_with settings before number old) (length new.pages) (steps_of number more)
  unfolding guest_with
  guest_with-more old new more kept =
      let trace = (guest_of settings before).trace in
      let idle = idle_steps (idle_next settings.quantum (kept_of settings before)) in
      let steps : steps_of number new.kept ≡ steps_of number old.kept ++ steps_of number more =
      ap (steps_of number) kept ∙ map-append (step_of number) old.kept more in
      let trace_is : trace ++ (idle ++ steps_of number new.kept) ≡ (trace ++ (idle ++ steps_of number old.kept)) ++ steps_of number more =
      ap (λ (l : List (List ℕ)). trace ++ (idle ++ l)) steps ∙ simp append_assoc in
      λ i. record { size = length new.pages; trace = trace_is i }

  module _ (old new : WorkingSetView) (draft : DraftView) (extends : Extends old.kept new.kept) where
    behind : drop (length old.kept) new.kept ≡ extends.0
    behind = ap (drop (length old.kept)) extends.1 ∙ drop-append_seam old.kept extends.0

    -- its draft
    draft-more : IsDraft settings (guest_with settings before number old) draft
        → IsDraft settings (guest_with settings before number new) (with_steps draft (steps_of number (drop (length old.kept) new.kept)))
    draft-more is =
        let kept : new.kept ≡ old.kept ++ drop (length old.kept) new.kept =
        extends.1 ∙ ap (λ (l : List RankedTouch). old.kept ++ l) (sym behind) in
        subst (λ (g : Guest). IsDraft settings g (with_steps draft (steps_of number (drop (length old.kept) new.kept))))
        (sym (guest_with-more old new (drop (length old.kept) new.kept) kept))
        (IsDraft-more settings (guest_with settings before number old) (length new.pages) _ draft is)

  touches-more : (accesses : List Access) (access : Access)
      → touches_in settings.has_code (accesses ++ access ∷ []) ≡ touches_in settings.has_code accesses ++ touched_by settings.has_code access
  touches-more accesses access =
      touches_in-append settings.has_code accesses (access ∷ [])
      ∙ ap (λ (l : List _). touches_in settings.has_code accesses ++ l) (append-nil (touched_by settings.has_code access))

  -- one more access
  pub way-more : (accesses : List Access) (access : Access) (old new : WorkingSetView) (draft drafted : DraftView)
      → IsUnderWay settings before number accesses old draft
      → SetGoesOn old new (touched_by settings.has_code access) → Extends old.kept new.kept
      → drafted ≡ with_steps draft (steps_of number (drop (length old.kept) new.kept))
      → IsUnderWay settings before number (accesses ++ access ∷ []) new drafted
  way-more accesses access old new draft drafted way goes extends is = record {
    whole = way.whole;
    touched =
        goes (touches_in settings.has_code before) (touches_in settings.has_code accesses) way.touched
        ∙ ap (working_set (touches_in settings.has_code before)) (sym (touches-more accesses access));
    drafted = subst (IsDraft settings (guest_with settings before number new)) (sym is) (draft-more old new draft extends way.drafted);
  }

  -- the guest with its accesses
  pub way-guest : (accesses : List Access) (set : WorkingSetView) (draft : DraftView)
      → 1 ≤ settings.interval → 1 ≤ length accesses → length accesses ≤ settings.interval
      → IsUnderWay settings before number accesses set draft
      → guest_of settings (before ++ accesses) ≡ guest_with settings before number set
  way-guest accesses set draft lines some few way =
      let there = count_before settings.interval number (length before) lines way.whole in
      guest_of-more settings before accesses there.0 there.2 some few
      ∙ ap (λ (n : ℕ). guest_with settings before n (working_set (touches_in settings.has_code before) (touches_in settings.has_code accesses))) (sym there.1)
      ∙ ap (guest_with settings before number) (sym way.touched)

  -- what it passes
  pub way-passes : (accesses : List Access) (set : WorkingSetView) (draft : DraftView)
      → 1 ≤ settings.interval → 1 ≤ length accesses → length accesses ≤ settings.interval
      → IsUnderWay settings before number accesses set draft
      → passed_by settings (guest_of settings (before ++ accesses)) ≡ limit_of settings (length set.pages) draft
  way-passes accesses set draft lines some few way =
      ap (passed_by settings) (way-guest accesses set draft lines some few way)
      ∙ sym (limit_of-draft settings (guest_with settings before number set) draft way.drafted)
      ∙ ap (λ (n : ℕ). limit_of settings n draft) (guest_with-size set)
