-- The texts of the steps of a recorded guest, one by one.
use Rattle.std.proofs.Common.{◌≡◌, ℕ, zero, suc, ◌+◌, ◌≤◌, inl, inr, true, nat_lt, List, [], ◌∷◌, ◌++◌, codes, decimal, map, Result, Ok, refl, ap, ◌∙◌, arith, lt-ltb}
use Rattle.std.proofs.lemmas.Bool.{and_from}
use Rattle.std.proofs.lemmas.List.Sums.{AllPass-from_list_all}
use Rattle.std.specs.Char.{is_ascii_digit}
use Rattle.std.specs.List.{list_all, range_with_len}
use Rattle.vm_laws.proofs.NumeralLemmas.{numeral}
use Rattle.vm_trace.specs.Sized.{is_within, steps_in, within_pages}
use Rattle.vm_trace.specs.Spelling.{AreSpelled, IsCounted, IsNumeral}
use Rattle.vm_trace.specs.Words.{◌>>=◌}
use Rattle.vm_trace.specs.declared.error.TraceError.{TraceError}
use Rattle.vm_trace.specs.declared.limits.StepLimits.{StepLimits}
use Rattle.vm_trace.specs.declared.step.Step.{Step}
use Rattle.vm_trace.specs.declared.step.Action.TheVariants.{Free, Touch, Yield}
use Rattle.vm_trace.proofs.SpelledIsRead.{steps_within-spelled}

-- the limits of version 3
abbrev pub limits : StepLimits
limits = record { pages = 262144; version_3 = true }

all-within : (size : ℕ) (step : ℕ → Step) → ((page : ℕ) → is_within size (step page) ≡ nat_lt page size)
    → (page count : ℕ) → page + count ≤ size → list_all (is_within size) (map step (range_with_len page count)) ≡ true
all-within size step same page zero inside = refl
all-within size step same page (suc count) inside =
    and_from (is_within size (step page)) (list_all (is_within size) (map step (range_with_len (page + 1) count)))
    (same page ∙ lt-ltb page size (omega arith)) (all-within size step same (page + 1) count (omega arith))

-- a text that spells steps is these steps, if their pages are the guest's
read-spelled : (size : ℕ) (text : List ℕ) (steps : List Step) → AreSpelled limits text steps → list_all (is_within size) steps ≡ true
    → steps_in limits size text ≡ Ok steps
read-spelled size text steps spelled within =
    ap (λ (r : Result (List Step) TraceError). r >>= within_pages size) (steps_within-spelled limits text steps spelled)
    ∙ rw within refl

nought : IsNumeral (codes "0") 0
nought = record { some = omega arith; short = omega arith; digits = AllPass-from_list_all is_ascii_digit (codes "0") refl; value = refl }

module _ (size : ℕ) (few : size ≤ 262144) where
  pub read-freed : (page count : ℕ) → 1 ≤ count → page + count ≤ size
      → steps_in limits size (codes "f " ++ (decimal page ++ (codes " " ++ decimal count))) ≡ Ok (map Free (range_with_len page count))
  read-freed page count some inside =
      let text = codes "f " ++ (decimal page ++ (codes " " ++ decimal count)) in
      let is : IsCounted limits (codes "f") text page count =
      record {
        version = refl;
        words = (decimal page, decimal count, numeral page (omega arith), numeral count (omega arith), refl);
        some = some;
        inside = omega arith;
      } in
      read-spelled size text (map Free (range_with_len page count)) (inr (inr (page, count, is, refl)))
      (all-within size Free (λ p. refl) page count inside)

  pub read-touched : (count : ℕ) → 1 ≤ count → count ≤ size
      → steps_in limits size (codes "t 0 " ++ decimal count) ≡ Ok (map Touch (range_with_len 0 count))
  read-touched count some inside =
      let text = codes "t 0 " ++ decimal count in
      let is : IsCounted limits (codes "t") text 0 count =
      record {
        version = refl;
        words = (codes "0", decimal count, nought, numeral count (omega arith), refl);
        some = some;
        inside = omega arith;
      } in
      read-spelled size text (map Touch (range_with_len 0 count)) (inr (inl (0, count, is, refl)))
      (all-within size Touch (λ p. refl) 0 count (omega arith))

  pub read-yield : steps_in limits size (codes "y") ≡ Ok (Yield ∷ [])
  read-yield =
      read-spelled size (codes "y") (Yield ∷ []) (inl (Yield, record { words = refl; page = tt; bytes = tt; version = refl }, refl)) refl
