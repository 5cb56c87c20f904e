-- From interval to interval.
use Rattle.std.proofs.Common.{◌≡◌, ◌∙◌, ℕ, ◌+◌, ◌*◌, ◌≤◌, List, [], ◌∷◌, ◌++◌, length, take, refl, sym, ap, subst, arith, length-append}
use Rattle.std.proofs.lemmas.List.{append-nil, take-append-le}
use Rattle.vm_import.specs.declared.access.Access.{Access}
use Rattle.vm_import.specs.declared.touch.RankedTouch.{RankedTouch}
use Rattle.vm_import.specs.WorkingSets.{Begins, WorkingSetView, working_set}
use Rattle.vm_import.specs.Drafts.{DraftView, with_steps}
use Rattle.vm_import.specs.Guests.{Guest, guest_of}
use Rattle.vm_import.specs.Importing.{after_interval}
use Rattle.vm_import.specs.Progress.{IsDraft, IsReady, IsUnderWay, guest_with, idle_next, kept_of, opening_of}
use Rattle.vm_import.specs.Settings.{Settings}
use Rattle.vm_import.specs.Steps.{idle_behind, idle_steps, steps_of}
use Rattle.vm_import.specs.Touched.{touches_in}
use Rattle.vm_import.specs.declared.interval.Interval.{Interval}
use Rattle.vm_import.proofs.GuestLemmas.{kept_of-more}
use Rattle.vm_import.proofs.IntervalLemmas.{touches_in-append}
use Rattle.vm_import.proofs.TextLemmas.{IsDraft-more, larger, opening-more}
use Rattle.vm_import.proofs.TraceLemmas.{idle_next-more}
use Rattle.vm_import.proofs.WayLemmas.{count_before, way-guest}
use Rattle.vm_import.proofs.WrittenLemmas.{IsDraft-after}

module _ (settings : Settings) (before : List Access) where
  -- the guest with the interval's steps is the guest of whole intervals, with idle steps and those
  guest_with-steps : (number : ℕ) (set : WorkingSetView)
      → guest_with settings before number set
      ≡ larger settings (guest_of settings before) (length set.pages)
      (idle_steps (idle_next settings.quantum (kept_of settings before)) ++ steps_of number set.kept)
  unfolding guest_with
  guest_with-steps number set = refl

  -- an interval begins with its idle steps
  pub ready-way : (interval : Interval) (set : WorkingSetView) (draft : DraftView) → set.kept ≡ []
      → IsReady settings before interval set draft
      → IsUnderWay settings before interval.number [] set (with_steps draft (idle_steps interval.idle))
  ready-way interval set draft none ready =
      let steps : idle_steps interval.idle ≡ idle_steps (idle_next settings.quantum (kept_of settings before)) ++ steps_of interval.number set.kept =
      ap idle_steps ready.idle ∙ sym (append-nil _) ∙ ap (λ (l : List RankedTouch). idle_steps (idle_next settings.quantum (kept_of settings before)) ++ steps_of interval.number l) (sym none) in
      record {
        whole = ready.whole;
        touched = ready.touched;
        drafted =
            subst (λ (g : Guest). IsDraft settings g (with_steps draft (idle_steps interval.idle)))
            (ap (λ (l : List (List ℕ)). larger settings (guest_of settings before) (length set.pages) l) steps
            ∙ sym (guest_with-steps interval.number set))
            (IsDraft-more settings (guest_of settings before) (length set.pages) (idle_steps interval.idle) draft ready.drafted);
      }

  -- what was written before the interval is still a front of the text
  pub written-before : (number : ℕ) (set : WorkingSetView) (written : ℕ) → written ≤ length (opening_of settings (guest_of settings before))
      → take written (opening_of settings (guest_of settings before)) ≡ take written (opening_of settings (guest_with settings before number set))
  written-before number set written within =
      sym (ap (λ (g : Guest). take written (opening_of settings g)) (guest_with-steps number set)
      ∙ ap (take written) (opening-more settings (guest_of settings before) (length set.pages) _)
      ∙ take-append-le written (opening_of settings (guest_of settings before)) _ within)

  module _ (accesses : List Access) (interval next : Interval) (old new : WorkingSetView) (draft drafted : DraftView)
      (lines : 1 ≤ settings.interval) (full : length accesses ≡ settings.interval)
      (way : IsUnderWay settings before interval.number accesses old draft) (begins : Begins old new)
      (number : next.number ≡ interval.number + 1) (idle : next.idle ≡ idle_behind settings.quantum (length old.kept))
      (is : drafted ≡ after_interval (length old.pages) draft) where
    same_guest : guest_of settings (before ++ accesses) ≡ guest_with settings before interval.number old
    same_guest = way-guest settings before interval.number accesses old draft lines (omega arith) (omega arith) way

    -- another interval may begin
    pub ready-next : IsReady settings (before ++ accesses) next new drafted
    ready-next =
        let whole = way.whole in
        let there = count_before settings.interval interval.number (length before) lines whole in
        let long = length-append before accesses in
        let kept : kept_of settings (before ++ accesses) ≡ kept_of settings before ++ old.kept ∷ [] =
        kept_of-more settings before accesses there.0 there.2 (omega arith) (omega arith)
        ∙ ap (λ (s : WorkingSetView). kept_of settings before ++ s.kept ∷ []) (sym way.touched) in
        let numbers : next.number * settings.interval ≡ interval.number * settings.interval + settings.interval =
        ap (λ (n : ℕ). n * settings.interval) number ∙ omega arith in
        record {
          whole = omega (arith, long, whole, numbers);
          idle = idle ∙ sym (ap (idle_next settings.quantum) kept ∙ idle_next-more settings.quantum (kept_of settings before) old.kept);
          touched =
              begins (touches_in settings.has_code before) (touches_in settings.has_code accesses) way.touched
              ∙ ap (λ (t : List _). working_set t []) (sym (touches_in-append settings.has_code before accesses));
          drafted =
              subst (λ (d : DraftView). IsDraft settings (guest_of settings (before ++ accesses)) d) (sym is)
              (IsDraft-after settings (guest_of settings (before ++ accesses)) draft
              (subst (λ (g : Guest). IsDraft settings g draft) (sym same_guest) way.drafted) (length old.pages));
        }
