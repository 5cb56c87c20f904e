-- What is taken of samples passes no limit, and is of samples in range.
use Rattle.std.proofs.Common.{◌≡◌, ◌∙◌, ℕ, zero, suc, ◌+◌, ◌-◌, ◌*◌, ◌/◌, ◌%◌, ◌==◌, ◌<◌, ◌≤◌, ◌⊎◌, inl, inr, Bool, true, false, List, [], ◌∷◌, ◌++◌, Option, Some, None, Result, Ok, Err, length, take, sym, refl, ap, subst, arith, if◌then◌else◌}
use Rattle.std.proofs.Math.Nat.{div-mul-le_self, lt_of_mul-lt-mul_right, mod-add-div, mod-lt}
use Rattle.std.proofs.Math.Seq.{take-length}
use Rattle.std.proofs.lemmas.Bool.Decides.{nat_tests}
use Rattle.std.proofs.lemmas.List.{length-append, take-append-le}
use Rattle.vm_recorded.specs.declared.limit.Limit.{Limit}
use Rattle.vm_recorded.specs.Limits.{limit_of, limit_with_bytes}
use Rattle.vm_samples.specs.declared.sample.BadSample.{BadSample}
use Rattle.vm_samples.specs.Policies.{PolicyView}
use Rattle.vm_samples.specs.Samples.{DomainView}
use Rattle.vm_steer.specs.Entries.{EntryView}
use Rattle.vm_steer.specs.Steering.{SteeringView, begun, steered}
use Rattle.vm_log.specs.HostOf.{host_of}
use Rattle.vm_log.specs.Taking.{Taken, ended_by, epochs_before, limit_at, taken_from, taken_of}
use Rattle.vm_log.proofs.RangeNameLemmas.{AreSamples}
use Rattle.vm_log.proofs.RangeSampleLemmas.{IsSample, next_seen}

-- ---- fronts of samples

seen_take : (n : ℕ) (samples : List (List EntryView)) → AreSamples samples → AreSamples (take n samples)
seen_take zero samples seen = tt
seen_take (suc n) [] seen = tt
seen_take (suc n) (sample ∷ samples) seen = (seen.0, seen_take n samples seen.1)

seen_more : (samples : List (List EntryView)) (sample : List EntryView) → AreSamples samples → IsSample sample → AreSamples (samples ++ sample ∷ [])
seen_more [] sample seen one = (one, tt)
seen_more (s ∷ samples) sample seen one = (seen.0, seen_more samples sample seen.1 one)

take_none : (n : ℕ) → take {A = List EntryView} n [] ≡ []
take_none zero = refl
take_none (suc n) = refl

-- those of whole epochs
abbrev whole : (every : ℕ) → List (List EntryView) → List (List EntryView)
whole every samples = take (length samples / every * every) samples

-- ---- what was judged

-- there are none, or a text of them passes no limit
abbrev pub PassNone : PolicyView → (every : ℕ) → List (List EntryView) → Type 0
PassNone policy every samples = (samples ≡ []) ⊎ (limit_with_bytes (host_of policy every samples) ≡ None)

-- these are samples in range, and a text of their whole epochs passes no limit
record AreFit (policy : PolicyView) (every : ℕ) (samples : List (List EntryView)) : Type 0 where
  seen : AreSamples samples
  ended : PassNone policy every (whole every samples)

-- what is taken in the end
pub record IsFit (policy : PolicyView) (every : ℕ) (samples : List (List EntryView)) : Type 0 where
  pub seen : AreSamples samples
  pub none : PassNone policy every samples

is_zero : (n : ℕ) → (n == 0) ≡ true → n ≡ 0
is_zero n e = grind (arith, nat_tests)

is_some : (n : ℕ) → (n == 0) ≡ false → 1 ≤ n
is_some n e = grind (arith, nat_tests)

module _ (every : ℕ) (some : 1 ≤ every) where
  -- an epoch that isn't whole counts for nothing
  open_end : (n : ℕ) → (n % every == 0) ≡ false → (n - 1) / every * every ≡ n / every * every
  open_end n open_ =
      let rest = is_some (n % every) open_ in
      let whole_is = mod-add-div n every in
      let front_is = mod-add-div (n - 1) every in
      let below : n % every < every = mod-lt n some in
      let under : (n - 1) % every < every = mod-lt (n - 1) some in
      let low : n / every * every < ((n - 1) / every + 1) * every = omega (arith, rest, whole_is, front_is, below, under) in
      let high : (n - 1) / every * every < (n / every + 1) * every = omega (arith, rest, whole_is, front_is, below, under) in
      let a = lt_of_mul-lt-mul_right every low in
      let b = lt_of_mul-lt-mul_right every high in
      let same : (n - 1) / every ≡ n / every = omega (arith, a, b) in
      ap (λ (q : ℕ). q * every) same

  closed_end : (n : ℕ) → (n % every == 0) ≡ true → n / every * every ≡ n
  closed_end n ends =
      let none = is_zero (n % every) ends in
      let whole_is = mod-add-div n every in
      omega (arith, none, whole_is)

  whole_all : (samples : List (List EntryView)) → (length samples % every == 0) ≡ true → whole every samples ≡ samples
  whole_all samples e = ap (λ (n : ℕ). take n samples) (closed_end (length samples) e) ∙ take-length samples

  front_open : (samples : List (List EntryView)) → (length samples % every == 0) ≡ false → epochs_before every samples ≡ whole every samples
  front_open samples e = ap (λ (n : ℕ). take n samples) (open_end (length samples) e)

  -- in front of the epoch of one sample more are the whole ones
  front_more : (samples : List (List EntryView)) (sample : List EntryView) → epochs_before every (samples ++ sample ∷ []) ≡ whole every samples
  front_more samples sample =
      let long : length (samples ++ sample ∷ []) - 1 ≡ length samples = omega (arith, length-append samples (sample ∷ [])) in
      ap (λ (n : ℕ). take (n / every * every) (samples ++ sample ∷ [])) long
      ∙ take-append-le (length samples / every * every) samples (sample ∷ []) (div-mul-le_self (length samples) every)

  whole_open : (samples : List (List EntryView)) (sample : List EntryView) → (length (samples ++ sample ∷ []) % every == 0) ≡ false
      → whole every (samples ++ sample ∷ []) ≡ whole every samples
  whole_open samples sample e = sym (front_open (samples ++ sample ∷ []) e) ∙ front_more samples sample

  -- ---- one sample more

  module _ (policy : PolicyView) where
    fit_more : (samples : List (List EntryView)) (sample : List EntryView) → AreFit policy every samples → IsSample sample
        → limit_at policy every (samples ++ sample ∷ []) ≡ None → AreFit policy every (samples ++ sample ∷ [])
    fit_more samples sample fit one none = record { seen = seen_more samples sample fit.seen one; ended = go (length (samples ++ sample ∷ []) % every == 0) refl none }
      where
        go : (t : Bool) → (length (samples ++ sample ∷ []) % every == 0) ≡ t
            → (if t then limit_with_bytes (host_of policy every (samples ++ sample ∷ [])) else limit_of (host_of policy every (samples ++ sample ∷ []))) ≡ None
            → PassNone policy every (whole every (samples ++ sample ∷ []))
        go true e none = subst (PassNone policy every) (sym (whole_all (samples ++ sample ∷ []) e)) (inr none)
        go false e none = subst (PassNone policy every) (sym (whole_open samples sample e)) fit.ended

    -- it ends in front of the epoch of the last of these
    fit_front : (samples : List (List EntryView)) (sample : List EntryView) → AreFit policy every samples → IsFit policy every (epochs_before every (samples ++ sample ∷ []))
    fit_front samples sample fit =
        subst (IsFit policy every) (sym (front_more samples sample)) (record { seen = seen_take _ samples fit.seen; none = fit.ended })

    -- there is no more, and the text is too long
    fit_end : (samples : List (List EntryView)) (limit : Limit) → AreFit policy every samples → limit_with_bytes (host_of policy every samples) ≡ Some limit
        → IsFit policy every (epochs_before every samples)
    fit_end samples limit fit passed = record { seen = seen_take _ samples fit.seen; none = go (length samples % every == 0) refl }
      where
        ended : whole every samples ≡ samples → PassNone policy every (whole every samples) → PassNone policy every (epochs_before every samples)
        ended all (inl none) = inl (ap (epochs_before every) (sym all ∙ none) ∙ take_none _)
        ended all (inr none) =
            let same : limit_with_bytes (host_of policy every samples) ≡ None = subst (λ (l : List (List EntryView)). limit_with_bytes (host_of policy every l) ≡ None) all none in
            absurd (cc)

        go : (t : Bool) → (length samples % every == 0) ≡ t → PassNone policy every (epochs_before every samples)
        go true e = ended (whole_all samples e) fit.ended
        go false e = subst (PassNone policy every) (sym (front_open samples e)) fit.ended

  -- ---- all of them

  ended_fit : (policy : PolicyView) (limit : Option Limit) (samples : List (List EntryView)) (bad : ℕ) (otherwise : Taken)
      → ((l : Limit) → limit ≡ Some l → IsFit policy every (epochs_before every samples)) → (limit ≡ None → IsFit policy every otherwise.samples)
      → IsFit policy every (ended_by every limit samples bad otherwise).samples
  ended_fit policy None samples bad otherwise stops goes = goes refl
  ended_fit policy (Some l) samples bad otherwise stops goes = stops l refl

  fit_from : (s : SteeringView) (before : List (List EntryView)) (bad : ℕ) (samples : List (Result (List DomainView) BadSample)) → AreFit s.policy every before
      → IsFit s.policy every (taken_from every s before bad samples).samples
  fit_from s before bad [] fit =
      ended_fit s.policy (limit_with_bytes (host_of s.policy every before)) before bad (record { samples = before; bad = bad; limit = None })
      (λ l e. fit_end s.policy before l fit e) (λ e. record { seen = fit.seen; none = inr e })
  fit_from s before bad (Err fault ∷ samples) fit = fit_from s before (bad + 1) samples fit
  fit_from s before bad (Ok domains ∷ samples) fit =
      let after = steered s domains in
      let taken = before ++ after.last.domains ∷ [] in
      ended_fit s.policy (limit_at s.policy every taken) taken bad (taken_from every after taken bad samples)
      (λ l e. fit_front s.policy before after.last.domains fit)
      (λ e. fit_from after taken bad samples (fit_more s.policy before after.last.domains fit (next_seen s.policy s.last domains) e))

  pub taken_fit : (policy : PolicyView) (samples : List (Result (List DomainView) BadSample)) → IsFit policy every (taken_of every policy samples).samples
  taken_fit policy samples = fit_from (begun policy) [] 0 samples (record { seen = tt; ended = inl (take_none _) })
