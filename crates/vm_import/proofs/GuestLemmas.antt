-- The guest of whole intervals and some accesses of one more.
use Rattle.std.proofs.Common.{◌≡◌, ◌∙◌, ℕ, suc, ◌+◌, ◌*◌, ◌≤◌, List, [], ◌∷◌, ◌++◌, length, refl, sym, ap, arith, length-append}
use Rattle.vm_import.specs.declared.access.Access.{Access}
use Rattle.vm_import.specs.declared.touch.Touch.{Touch}
use Rattle.vm_import.specs.Kept.{first_touches}
use Rattle.vm_import.specs.WorkingSets.{WorkingSetView, working_set}
use Rattle.vm_import.specs.Guests.{guest_of}
use Rattle.vm_import.specs.Intervals.{cut, intervals_of, kept_in, rounded_up}
use Rattle.vm_import.specs.Progress.{guest_with, idle_next, kept_of}
use Rattle.vm_import.specs.Settings.{Settings}
use Rattle.vm_import.specs.Steps.{idle_steps, steps_of, trace_of}
use Rattle.vm_import.specs.Touched.{touches_in}
use Rattle.vm_import.proofs.IntervalLemmas.{kept_behind-more, length-cut, length-kept_behind, rounded_up-more, rounded_up-whole, touches_in-append}
use Rattle.vm_import.proofs.TraceLemmas.{trace_of-more}

pages_are : (before touches : List Touch) → (working_set before touches).pages ≡ first_touches (before ++ touches)
unfolding working_set
pages_are before touches = refl

intervals_before : (settings : Settings) (before : List Access) (count : ℕ) → 1 ≤ settings.interval → length before ≡ count * settings.interval
    → intervals_of settings.interval before ≡ cut settings.interval count before
intervals_before settings before count lines whole =
    ap (λ (n : ℕ). cut settings.interval (rounded_up n settings.interval) before) whole
    ∙ ap (λ (n : ℕ). cut settings.interval n before) (rounded_up-whole count settings.interval lines)

-- how many whole intervals there are
pub intervals-whole : (settings : Settings) (before : List Access) (count : ℕ) → 1 ≤ settings.interval → length before ≡ count * settings.interval
    → length (intervals_of settings.interval before) ≡ count
intervals-whole settings before count lines whole =
    ap length (intervals_before settings before count lines whole) ∙ length-cut settings.interval count before

module _ (settings : Settings) (before accesses : List Access) (count : ℕ)
    (whole : length before ≡ count * settings.interval) (some : 1 ≤ length accesses) (few : length accesses ≤ settings.interval) where
  abbrev pub set : WorkingSetView
  set = working_set (touches_in settings.has_code before) (touches_in settings.has_code accesses)

  intervals_all : intervals_of settings.interval (before ++ accesses) ≡ cut settings.interval (suc count) (before ++ accesses)
  intervals_all =
      let long : length (before ++ accesses) ≡ count * settings.interval + length accesses = length-append before accesses ∙ ap (λ (n : ℕ). n + length accesses) whole in
      let same : count + 1 ≡ suc count = omega arith in
      ap (λ (n : ℕ). cut settings.interval (rounded_up n settings.interval) (before ++ accesses)) long
      ∙ ap (λ (n : ℕ). cut settings.interval n (before ++ accesses)) (rounded_up-more count settings.interval (length accesses) some few ∙ same)

  pub kept_of-more : kept_of settings (before ++ accesses) ≡ kept_of settings before ++ set.kept ∷ []
  unfolding kept_of
  kept_of-more =
      ap (kept_in settings.has_code) intervals_all
      ∙ kept_behind-more settings.has_code settings.interval count [] before accesses whole few
      ∙ ap (λ (l : List (List Access)). kept_in settings.has_code l ++ set.kept ∷ []) (sym (intervals_before settings before count (omega arith) whole))

  length-kept_of : length (kept_of settings before) ≡ count
  unfolding kept_of
  length-kept_of =
      ap (λ (l : List (List Access)). length (kept_in settings.has_code l)) (intervals_before settings before count (omega arith) whole)
      ∙ length-kept_behind settings.has_code settings.interval count [] before

  pub intervals-more : length (intervals_of settings.interval (before ++ accesses)) ≡ suc count
  intervals-more = ap length intervals_all ∙ length-cut settings.interval (suc count) (before ++ accesses)

  size_is : length (first_touches (touches_in settings.has_code (before ++ accesses))) ≡ length set.pages
  size_is =
      ap (λ (t : List Touch). length (first_touches t)) (touches_in-append settings.has_code before accesses)
      ∙ sym (ap length (pages_are (touches_in settings.has_code before) (touches_in settings.has_code accesses)))

  trace_is : trace_of settings.quantum (kept_of settings (before ++ accesses))
      ≡ trace_of settings.quantum (kept_of settings before)
      ++ (idle_steps (idle_next settings.quantum (kept_of settings before)) ++ steps_of (count + 1) set.kept)
  trace_is =
      let number : 1 + length (kept_of settings before) ≡ count + 1 = omega (arith, length-kept_of) in
      ap (trace_of settings.quantum) kept_of-more
      ∙ trace_of-more settings.quantum (kept_of settings before) set.kept
      ∙ ap (λ (n : ℕ). trace_of settings.quantum (kept_of settings before)
      ++ (idle_steps (idle_next settings.quantum (kept_of settings before)) ++ steps_of n set.kept)) number

  -- it is told by the working set
  pub guest_of-more : guest_of settings (before ++ accesses) ≡ guest_with settings before (count + 1) set
  unfolding guest_of guest_with kept_of
  guest_of-more = λ i. record { size = size_is i; trace = trace_is i }
