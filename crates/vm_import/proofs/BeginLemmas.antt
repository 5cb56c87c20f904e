-- Before the first interval.
use Rattle.std.proofs.Common.{◌≡◌, ◌∙◌, ℕ, ◌*◌, ◌≤◌, List, [], length, Option, take, refl, sym, ap, subst, arith}
use Rattle.std.proofs.KnownBytes.{Appends-nil}
use Rattle.std.proofs.lemmas.List.{append-nil}
use Rattle.std.specs.Io.KnownBytes.{Appends}
use Rattle.vm_import.specs.declared.access.Access.{Access}
use Rattle.vm_import.specs.Logs.{Log}
use Rattle.vm_import.specs.WorkingSets.{WorkingSetView, working_set}
use Rattle.vm_import.specs.Drafts.{DraftView}
use Rattle.vm_import.specs.Guests.{Guest, guest_of}
use Rattle.vm_import.specs.Importing.{AreTaken}
use Rattle.vm_import.specs.Intervals.{cut, intervals_of, kept_in, rounded_up}
use Rattle.vm_import.specs.Progress.{IsDraft, idle_next, kept_of, opening_of}
use Rattle.vm_import.specs.Settings.{Settings}
use Rattle.vm_import.specs.Steps.{trace_of}
use Rattle.vm_import.specs.Texts.{head_of}
use Rattle.vm_import.proofs.IntervalLemmas.{rounded_up-whole}
use Rattle.vm_import.proofs.TakingLemmas.{reads-none, same-none}

module _ (settings : Settings) (lines : 1 ≤ settings.interval) where
  no_intervals : intervals_of settings.interval [] ≡ []
  no_intervals =
      let none : 0 * settings.interval ≡ 0 = omega arith in
      ap (λ (n : ℕ). cut settings.interval n [])
      (ap (λ (n : ℕ). rounded_up n settings.interval) (sym none) ∙ rounded_up-whole 0 settings.interval lines)

  kept_of-none : kept_of settings [] ≡ []
  unfolding kept_of
  kept_of-none = ap (λ (l : List (List Access)). kept_in settings.has_code l) no_intervals

  guest_of-none : guest_of settings [] ≡ record { size = 0; trace = [] }
  unfolding guest_of trace_of
  guest_of-none =
      let trace : trace_of settings.quantum (kept_in settings.has_code (intervals_of settings.interval [])) ≡ [] =
      ap (λ (l : List (List Access)). trace_of settings.quantum (kept_in settings.has_code l)) no_intervals in
      λ i. record { size = 0; trace = trace i }

  opening-none : opening_of settings (record { size = 0; trace = [] }) ≡ head_of settings
  unfolding opening_of
  opening-none = append-nil (head_of settings)

  begun_draft : IsDraft settings (record { size = 0; trace = [] }) (record { text = head_of settings; written = 0; steps = 0 })
  begun_draft = record {
    within = omega arith;
    text = sym opening-none;
    steps = refl;
  }

  pub begun : (first : Option Log) (old : Option (List ℕ)) (set : WorkingSetView) (draft : DraftView) → set ≡ working_set [] []
      → draft ≡ record { text = head_of settings; written = 0; steps = 0 }
      → AreTaken settings first old old (record { number = 1; idle = 0 }) 0 set draft first
  begun first old set draft set_is draft_is = record {
    before = [];
    ready = record {
      whole = omega arith;
      idle = sym (ap (idle_next settings.quantum) kept_of-none);
      touched = set_is;
      drafted =
          subst (λ (d : DraftView). IsDraft settings (guest_of settings []) d) (sym draft_is)
          (subst (λ (g : Guest). IsDraft settings g (record { text = head_of settings; written = 0; steps = 0 }))
          (sym guest_of-none) begun_draft);
    };
    reads = reads-none first;
    same = same-none settings [] first;
    size_is = sym (ap (λ (g : Guest). g.size) guest_of-none);
    written =
        subst (λ (d : DraftView). Appends old old
        (take d.written (opening_of settings (guest_of settings [])))) (sym draft_is) (Appends-nil old);
  }

pub no_pages : (set : WorkingSetView) → set ≡ working_set [] [] → length set.pages ≡ 0
unfolding working_set
no_pages set is = ap (λ (s : WorkingSetView). length s.pages) is

pub none_kept : (set : WorkingSetView) → set ≡ working_set [] [] → set.kept ≡ []
unfolding working_set
none_kept set is = ap (λ (s : WorkingSetView). s.kept) is
