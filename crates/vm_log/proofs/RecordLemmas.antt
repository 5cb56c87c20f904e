-- All guests with one sample more, and with none of the open epoch.
use Rattle.std.proofs.Common.{◌≡◌, ◌∙◌, ◌⊎◌, inl, inr, ℕ, zero, suc, ◌+◌, ◌-◌, ◌*◌, ◌<◌, ◌≤◌, Bool, true, false, not, List, [], ◌∷◌, ◌++◌, Option, Some, None, length, map, max, append_assoc, option_map, unwrap_or, refl, sym, ap, subst, arith, if◌then◌else◌}
use Rattle.std.proofs.lemmas.List.{append-nil, length-append, length-map}
use Rattle.std.specs.List.{insert}
use Rattle.vm_recorded.specs.Counts.{counts_for, counts_of}
use Rattle.vm_recorded.specs.Hosts.{GuestView}
use Rattle.vm_samples.specs.Policies.{PolicyView}
use Rattle.vm_steer.specs.declared.fate.Fate.{Fate}
use Rattle.vm_steer.specs.declared.fate.Fate.TheVariants.{Left, Steered}
use Rattle.vm_steer.specs.declared.fate.SteeredDomain.{SteeredDomain}
use Rattle.vm_steer.specs.Entries.{EntryView}
use Rattle.vm_steer.specs.Look.{bounds_at, rules_of}
use Rattle.vm_steer.specs.Names.{place_of, stands_at, AreRising}
use Rattle.vm_log.specs.declared.kept.Kept.{Kept}
use Rattle.vm_log.specs.Alone.{AloneView}
use Rattle.vm_log.specs.Epochs.{epochs_of, uses_of}
use Rattle.vm_log.specs.HostOf.{guest_of, is_among}
use Rattle.vm_log.specs.NamesSeen.{guest_names, is_left, is_steered, left_names, names_from, with_name, with_names}
use Rattle.vm_log.specs.Recorded.{alone_for, kept_for}
use Rattle.vm_log.specs.Seen.{greater, left_in, most_left, size_in, steered_in, use_in}
use Rattle.vm_log.specs.Steps.{all_taken_back, alone_back, counted_all, counts_with, kept_all, kept_alone, kept_with, new_alone, new_guest, new_kept, put_at, raised_all, raised_alone, raised_by, taken_back, with_entries, with_fate, Growing}
use Rattle.vm_log.proofs.CutLemmas.{length-epochs, uses-open}
use Rattle.vm_log.proofs.GatherLemmas.{among-place, never-left, never-steered, none-rising, not-among, only, with-new, with-rising, with-there}
use Rattle.vm_log.proofs.GuestLemmas.{back-made, counts-made, guest-made, made, raised-none, raised-some, IsKeptOf, IsUpTo}
use Rattle.vm_log.proofs.SeenLemmas.{greater-none, greatest-more, most-more, unwrap-greater}
use Rattle.vm_log.proofs.TrimLemmas.{trimmed}

name-of : (policy : PolicyView) (every : ℕ) (samples : List (List EntryView)) (name : List ℕ) → (guest_of policy every samples name).name ≡ name
unfolding guest_of
name-of policy every samples name = refl

module _ (policy : PolicyView) (every ended : ℕ) (some : 0 < every) (closed opened : List (List EntryView)) (whole : length closed ≡ ended * every) where
  wide : (name : List ℕ) → length (uses_of every name closed) ≡ ended
  wide name = length-map (epochs_of every closed) (use_in name) ∙ length-epochs every ended some closed whole

  -- the uses up to the open epoch
  up-to : length opened ≤ every → (name : List ℕ) → IsUpTo (uses_of every name closed) (use_in name opened) (uses_of every name (closed ++ opened))
  up-to fits name = go opened fits
    where
      go : (o : List (List EntryView)) → length o ≤ every → IsUpTo (uses_of every name closed) (use_in name o) (uses_of every name (closed ++ o))
      go [] fits = inl (ap (uses_of every name) (append-nil closed), refl)
      go (s ∷ o) fits = inr (uses-open every ended some name closed (s ∷ o) whole (omega arith) fits)

  kept-is : (name : List ℕ) → IsKeptOf (rules_of policy.guests name) (unwrap_or (size_in name closed) 0) (uses_of every name closed) (kept_for policy every closed name)
  unfolding guest_of
  kept-is name = record { rules_are = refl; first = refl; size_is = refl; length_is = refl; counts = refl }

  module _ (s : List EntryView) (room : length opened < every) where
    uses-more : (name : List ℕ) → uses_of every name (closed ++ (opened ++ s ∷ [])) ≡ uses_of every name closed ++ use_in name (opened ++ s ∷ []) ∷ []
    uses-more name =
        let l = length-append opened (s ∷ []) in
        uses-open every ended some name closed (opened ++ s ∷ []) whole (omega (arith, l)) (omega (arith, l))

    size-more : (name : List ℕ) → unwrap_or (size_in name (closed ++ (opened ++ s ∷ []))) 0 ≡ max (unwrap_or (size_in name (closed ++ opened)) 0) (unwrap_or (option_map (λ (d : SteeredDomain). d.size) (steered_in name s)) 0)
    size-more name =
        ap (λ (l : List (List EntryView)). unwrap_or (size_in name l) 0) (sym (append_assoc closed opened (s ∷ [])))
        ∙ (ap (λ (o : Option ℕ). unwrap_or o 0) (greatest-more (λ d. d.size) name (closed ++ opened) s)
        ∙ unwrap-greater (size_in name (closed ++ opened)) (option_map (λ (d : SteeredDomain). d.size) (steered_in name s)))

    -- the guest by what the sample tells of it
    whole_guest : (name : List ℕ) (seen : Option SteeredDomain) → steered_in name s ≡ seen → guest_of policy every (closed ++ (opened ++ s ∷ [])) name
        ≡ made policy.most (rules_of policy.guests name) name (max (unwrap_or (size_in name (closed ++ opened)) 0) (unwrap_or (option_map (λ (d : SteeredDomain). d.size) seen) 0))
        (uses_of every name closed ++ greater (use_in name opened) (option_map (λ (d : SteeredDomain). d.used) seen) ∷ [])
    whole_guest name seen e =
        guest-made policy every (closed ++ (opened ++ s ∷ [])) name
        ∙ (λ i. made policy.most (rules_of policy.guests name) name
        ((size-more name ∙ ap (λ (o : Option SteeredDomain). max (unwrap_or (size_in name (closed ++ opened)) 0) (unwrap_or (option_map (λ (d : SteeredDomain). d.size) o) 0)) e) i)
        ((uses-more name ∙ ap (λ (o : Option ℕ). uses_of every name closed ++ o ∷ []) (greatest-more (λ d. d.used) name opened s
        ∙ ap (λ (o : Option SteeredDomain). greater (use_in name opened) (option_map (λ (d : SteeredDomain). d.used) o)) e)) i))

    guest-more : (name : List ℕ) → raised_by policy.most ended (kept_for policy every closed name) (guest_of policy every (closed ++ opened) name) (steered_in name s)
        ≡ guest_of policy every (closed ++ (opened ++ s ∷ [])) name
    guest-more name = go (steered_in name s) refl
      where
        go : (seen : Option SteeredDomain) → steered_in name s ≡ seen → raised_by policy.most ended (kept_for policy every closed name) (guest_of policy every (closed ++ opened) name) (steered_in name s)
            ≡ guest_of policy every (closed ++ (opened ++ s ∷ [])) name
        go None e =
            let size = unwrap_or (size_in name (closed ++ opened)) 0 in
            let same : max size 0 ≡ size = omega arith in
            (λ i. raised_by policy.most ended (kept_for policy every closed name) (guest-made policy every (closed ++ opened) name i) (e i))
            ∙ (raised-none policy.most (rules_of policy.guests name) name size (uses_of every name closed) (use_in name opened) (uses_of every name (closed ++ opened)) (up-to (omega arith) name) (kept_for policy every closed name) ended (wide name)
            ∙ ((λ i. made policy.most (rules_of policy.guests name) name (sym same i) (uses_of every name closed ++ sym (greater-none (use_in name opened)) i ∷ []))
            ∙ sym (whole_guest name None e)))
        go (Some seen) e =
            (λ i. raised_by policy.most ended (kept_for policy every closed name) (guest-made policy every (closed ++ opened) name i) (e i))
            ∙ (raised-some policy.most (rules_of policy.guests name) name (unwrap_or (size_in name (closed ++ opened)) 0) (uses_of every name closed) (use_in name opened) (uses_of every name (closed ++ opened)) (up-to (omega arith) name)
            (kept_for policy every closed name) ended seen (wide name) (unwrap_or (size_in name closed) 0) (kept-is name)
            ∙ sym (whole_guest name (Some seen) e))

    pub all-more : (names : List (List ℕ)) → raised_all policy.most ended s (map (kept_for policy every closed) names) (map (guest_of policy every (closed ++ opened)) names)
        ≡ map (guest_of policy every (closed ++ (opened ++ s ∷ []))) names
    all-more [] = refl
    all-more (name ∷ names) =
        λ i. (ap (λ (n : List ℕ). raised_by policy.most ended (kept_for policy every closed name) (guest_of policy every (closed ++ opened) name) (steered_in n s)) (name-of policy every (closed ++ opened) name) ∙ guest-more name) i
        ∷ all-more names i

    counts-more : (name : List ℕ) → counts_with (kept_for policy every closed name) ended (guest_of policy every (closed ++ (opened ++ s ∷ [])) name).uses
        ≡ counts_of (guest_of policy every (closed ++ (opened ++ s ∷ [])) name).uses
    counts-more name =
        let uses = uses_of every name closed in
        let a = use_in name (opened ++ s ∷ []) in
        let is : (guest_of policy every (closed ++ (opened ++ s ∷ [])) name).uses ≡ trimmed (uses ++ a ∷ []) =
        ap (λ (g : GuestView). g.uses) (guest-made policy every (closed ++ (opened ++ s ∷ [])) name) ∙ ap trimmed (uses-more name) in
        ap (counts_with (kept_for policy every closed name) ended) is
        ∙ (counts-made (rules_of policy.guests name) (unwrap_or (size_in name closed) 0) uses a (kept_for policy every closed name) ended (wide name) (kept-is name)
        ∙ ap counts_of (sym is))

    pub all-counted : (names : List (List ℕ)) → counted_all ended (map (kept_for policy every closed) names) (map (guest_of policy every (closed ++ (opened ++ s ∷ []))) names)
        ≡ counts_for (map (guest_of policy every (closed ++ (opened ++ s ∷ []))) names)
    all-counted [] = refl
    all-counted (name ∷ names) = λ i. counts-more name i ∷ all-counted names i

  -- ---- none of the open epoch

  guest-back : length opened ≤ every → (name : List ℕ) → taken_back policy.most (kept_for policy every closed name) (guest_of policy every (closed ++ opened) name) ≡ guest_of policy every closed name
  guest-back fits name =
      ap (taken_back policy.most (kept_for policy every closed name)) (guest-made policy every (closed ++ opened) name)
      ∙ (back-made policy.most (rules_of policy.guests name) name (unwrap_or (size_in name (closed ++ opened)) 0) (uses_of every name closed) (use_in name opened) (uses_of every name (closed ++ opened)) (up-to fits name)
      (kept_for policy every closed name) (unwrap_or (size_in name closed) 0) (kept-is name)
      ∙ sym (guest-made policy every closed name))

  pub all-back : length opened ≤ every → (names : List (List ℕ)) → all_taken_back policy.most (map (kept_for policy every closed) names) (map (guest_of policy every (closed ++ opened)) names)
      ≡ map (guest_of policy every closed) (only (is_among (guest_names closed)) names)
  all-back fits [] = refl
  all-back fits (name ∷ names) = go (is_among (guest_names closed) name) (all-back fits names)
    where
      rest : List GuestView
      rest = all_taken_back policy.most (map (kept_for policy every closed) names) (map (guest_of policy every (closed ++ opened)) names)

      go : (t : Bool) → rest ≡ map (guest_of policy every closed) (only (is_among (guest_names closed)) names)
          → (if not t then rest else taken_back policy.most (kept_for policy every closed name) (guest_of policy every (closed ++ opened) name) ∷ rest)
          ≡ map (guest_of policy every closed) (if t then name ∷ only (is_among (guest_names closed)) names else only (is_among (guest_names closed)) names)
      go true later = λ i. guest-back fits name i ∷ later i
      go false later = later
