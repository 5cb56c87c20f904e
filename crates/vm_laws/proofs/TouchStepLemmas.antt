-- The steps that an import writes are read as what its touches become.
use Rattle.std.proofs.Common.{◌≡◌, ℕ, zero, suc, ◌+◌, ◌/◌, ◌%◌, ◌<◌, ◌≤◌, inl, inr, Bool, true, false, if◌then◌else◌, nat_lt, List, [], ◌∷◌, ◌++◌, codes, decimal, length, map, replicate, Result, Ok, refl, sym, ap, ◌∙◌, arith, append_assoc, append-nil, le-leb, lt-ltb, le-ltb}
use Rattle.std.proofs.lemmas.Bool.{and_from, cases_lt}
use Rattle.std.proofs.lemmas.List.{length-append}
use Rattle.std.proofs.lemmas.List.Sums.{AllPass-from_list_all}
use Rattle.std.specs.Char.{digit_value, is_ascii_digit}
use Rattle.vm_config.specs.Reading.{steps_from}
use Rattle.vm_config.specs.Versions.{version_2}
use Rattle.vm_import.specs.Steps.{byte_of, hex_digit, idle_behind, idle_steps, step_of, steps_of, trace_behind}
use Rattle.vm_laws.specs.Meaning.{action_of, actions_behind, MeanSteps}
use Rattle.vm_laws.proofs.RankLemmas.{Each}
use Rattle.vm_laws.proofs.NumeralLemmas.{numeral}
use Rattle.vm_laws.proofs.SafeLemmas.{AreSafe, safe-append, safe-byte, safe-cons, safe-decimal}
use Rattle.vm_laws.proofs.ConfigTextLemmas.{AreAllSafe}
use Rattle.vm_trace.specs.Sized.{steps_in, within_pages}
use Rattle.vm_trace.specs.Spelling.{IsHexOf, IsNumeral}
use Rattle.vm_trace.specs.Words.{◌>>=◌}
use Rattle.vm_trace.specs.declared.error.TraceError.{TraceError}
use Rattle.vm_trace.specs.declared.step.Action.{Action}
use Rattle.vm_trace.specs.declared.step.Action.TheVariants.{Idle, Read, Write}
use Rattle.vm_trace.specs.declared.step.Step.{Step}
use Rattle.vm_trace.specs.Spelling.{IsSpelled}
use Rattle.vm_trace.specs.Versions.{before_3}
use Rattle.vm_trace.proofs.SpelledIsRead.{steps_within-spelled}
use Rattle.vm_import.specs.WorkingSets.{IsWithin}
use Rattle.vm_import.specs.declared.touch.RankedTouch.{RankedTouch}

-- ---- two hexadecimal digits

hex_value : (d : ℕ) → d < 16 → digit_value (hex_digit d) ≡ d
hex_value d small =
    elim (cases_lt d 10) [
      | inl low ↦ rw (lt-ltb d 10 low) (grind arith)
      | inr high ↦ rw (le-ltb d 10 high) (grind arith)
    ]

hex-safe : (d : ℕ) → d < 16 → AreSafe (hex_digit d ∷ [])
hex-safe d small =
    elim (cases_lt d 10) [
      | inl low ↦ rw (lt-ltb d 10 low) (safe-cons (48 + d) [] (safe-byte (48 + d) (omega arith) (omega arith) (λ e. omega arith) (λ e. omega arith)) refl)
      | inr high ↦ rw (le-ltb d 10 high) (safe-cons (87 + d) [] (safe-byte (87 + d) (omega arith) (omega arith) (λ e. omega arith) (λ e. omega arith)) refl)
    ]

hex-digit : (d : ℕ) → d < 16 → nat_lt (digit_value (hex_digit d)) 16 ≡ true
hex-digit d small = lt-ltb _ 16 (let value = hex_value d small in omega arith)

module _ (number : ℕ) where
  high-small : number % 256 / 16 < 16
  high-small = omega arith

  low-small : number % 256 % 16 < 16
  low-small = omega arith

  hex : IsHexOf (byte_of number) (number % 256 ∷ [])
  hex =
      let high = hex_value (number % 256 / 16) high-small in
      let low = hex_value (number % 256 % 16) low-small in
      record {
        even = refl;
        digits = AllPass-from_list_all (λ c. nat_lt (digit_value c) 16) (byte_of number)
            (and_from _ _ (hex-digit (number % 256 / 16) high-small) (and_from _ true (hex-digit (number % 256 % 16) low-small) refl));
        value = ap (λ (b : ℕ). b ∷ []) (omega arith);
      }

  byte-safe : AreSafe (byte_of number)
  byte-safe =
      safe-append (hex_digit (number % 256 / 16) ∷ []) (hex_digit (number % 256 % 16) ∷ [])
      (hex-safe (number % 256 / 16) high-small) (hex-safe (number % 256 % 16) low-small)

-- ---- one step

-- a text that spells a step is that step alone, if its page is one of the guest's
read-alone : (size : ℕ) (text : List ℕ) (step : Step) → IsSpelled (before_3 262144) text step
    → steps_in (before_3 262144) size text ≡ within_pages size (step ∷ [])
read-alone size text step spelled =
    ap (λ (r : Result (List Step) TraceError). r >>= within_pages size)
    (steps_within-spelled (before_3 262144) text (step ∷ []) (inl (step, spelled, refl)))

module _ (size number rank offset : ℕ) (few : size ≤ 262144) (below : rank < size) (inside : offset < 4096) where
  abbrev text : Bool → List ℕ
  text b =
      (if b then codes "w " else codes "r ") ++ (decimal rank ++ (codes " " ++ (decimal offset ++ (codes " "
      ++ (if b then byte_of number else codes "1")))))

  abbrev action : Bool → Action
  action b = if b then Write rank offset (number % 256 ∷ []) else Read rank offset 1

  read-text : (b : Bool) → steps_in (before_3 262144) size (text b) ≡ Ok (action b ∷ [])
  read-text true =
      read-alone size (text true) (action true)
      (record {
        words = (decimal rank, decimal offset, byte_of number, numeral rank (omega arith), numeral offset (omega arith), hex number, refl);
        page = omega arith;
        bytes = record { some = omega arith; few = omega arith; inside = omega arith };
        version = tt;
      })
      ∙ rw (lt-ltb rank size below) refl
  read-text false =
      read-alone size (text false) (action false)
      (record {
        words = (decimal rank, decimal offset, codes "1", numeral rank (omega arith), numeral offset (omega arith), one, refl);
        page = omega arith;
        bytes = record { some = omega arith; few = omega arith; inside = omega arith };
        version = tt;
      })
      ∙ rw (lt-ltb rank size below) refl
    where
      one : IsNumeral (codes "1") 1
      one = record { some = omega arith; short = omega arith; digits = AllPass-from_list_all is_ascii_digit (codes "1") refl; value = refl }

  text-safe : (b : Bool) → AreSafe (text b)
  text-safe b =
      let third : List ℕ = if b then byte_of number else codes "1" in
      let second = decimal offset ++ (codes " " ++ third) in
      let first = decimal rank ++ (codes " " ++ second) in
      let third_safe : AreSafe (codes " " ++ third) = safe-append (codes " ") third refl (last b) in
      let second_safe : AreSafe second = safe-append (decimal offset) (codes " " ++ third) (safe-decimal offset (omega arith)) third_safe in
      let first_safe : AreSafe first =
      safe-append (decimal rank) (codes " " ++ second) (safe-decimal rank (omega arith)) (safe-append (codes " ") second refl second_safe) in
      safe-append (if b then codes "w " else codes "r ") first (letter b) first_safe
    where
      letter : (b : Bool) → AreSafe (if b then codes "w " else codes "r ")
      letter true = refl
      letter false = refl

      last : (b : Bool) → AreSafe (if b then byte_of number else codes "1")
      last true = byte-safe number
      last false = refl

read-step : (size number : ℕ) (touch : RankedTouch) → size ≤ 262144 → IsWithin size touch
    → steps_in (before_3 262144) size (step_of number touch) ≡ Ok (action_of number touch ∷ [])
unfolding step_of
read-step size number touch few within = read-text size number touch.rank touch.offset few within.rank within.offset touch.writes

step-safe : (size number : ℕ) (touch : RankedTouch) → size ≤ 262144 → IsWithin size touch → AreSafe (step_of number touch)
unfolding step_of
step-safe size number touch few within = text-safe size number touch.rank touch.offset few within.rank within.offset touch.writes

read-idle : (size : ℕ) → steps_in (before_3 262144) size (codes "i") ≡ Ok (Idle ∷ [])
read-idle size =
    read-alone size (codes "i") Idle (record { words = refl; page = tt; bytes = tt; version = tt })

-- ---- a trace

mean-append : (size : ℕ) (xs ys : List (List ℕ)) (firsts lasts : List Action) → MeanSteps size xs firsts → MeanSteps size ys lasts
    → MeanSteps size (xs ++ ys) (firsts ++ lasts)
mean-append size [] ys [] lasts h k = k
mean-append size [] ys (a ∷ firsts) lasts h k = absurd h
mean-append size (x ∷ xs) ys [] lasts h k = absurd h
mean-append size (x ∷ xs) ys (a ∷ firsts) lasts h k = (h.0, mean-append size xs ys firsts lasts h.1 k)

mean-idle : (size count : ℕ) → MeanSteps size (idle_steps count) (replicate count Idle)
unfolding idle_steps
mean-idle size zero = tt
mean-idle size (suc count) = (read-idle size, mean-idle size count)

module _ (size : ℕ) (few : size ≤ 262144) where
  mean-kept : (number : ℕ) (kept : List RankedTouch) → Each (IsWithin size) kept
      → MeanSteps size (steps_of number kept) (map (action_of number) kept)
  mean-kept number [] within = tt
  mean-kept number (touch ∷ kept) within = (read-step size number touch few within.0, mean-kept number kept within.1)

  pub mean-trace : (quantum number idle : ℕ) (all : List (List RankedTouch)) → Each (Each (IsWithin size)) all
      → MeanSteps size (trace_behind quantum number idle all) (actions_behind quantum number idle all)
  mean-trace quantum number idle [] within = tt
  mean-trace quantum number idle (kept ∷ others) within =
      let next = idle_behind quantum (length kept) in
      let texts = trace_behind quantum (number + 1) next others in
      let steps = actions_behind quantum (number + 1) next others in
      mean-append size (idle_steps idle) (steps_of number kept ++ texts) (replicate idle Idle) (map (action_of number) kept ++ steps)
      (mean-idle size idle)
      (mean-append size (steps_of number kept) texts (map (action_of number) kept) steps (mean-kept number kept within.0)
      (mean-trace quantum (number + 1) next others within.1))

pub mean-length : (size : ℕ) (texts : List (List ℕ)) (steps : List Action) → MeanSteps size texts steps → length texts ≡ length steps
mean-length size [] [] h = refl
mean-length size [] (step ∷ steps) h = absurd h
mean-length size (text ∷ texts) [] h = absurd h
mean-length size (text ∷ texts) (step ∷ steps) h = ap (λ (n : ℕ). suc n) (mean-length size texts steps h.1)

-- the texts are read as the steps
pub steps_from-mean : (size guest number : ℕ) (texts : List (List ℕ)) (steps done : List Action) → MeanSteps size texts steps
    → length done + length steps ≤ 1000000 → steps_from version_2 size guest number texts done ≡ Ok (done ++ steps)
unfolding version_2
steps_from-mean size guest number [] [] done h few = ap (λ (l : List Action). Ok l) (sym (append-nil done))
steps_from-mean size guest number [] (step ∷ steps) done h few = absurd h
steps_from-mean size guest number (text ∷ texts) [] done h few = absurd h
steps_from-mean size guest number (text ∷ texts) (step ∷ steps) done h few =
    rw (h.0, le-leb (length done + 1) 1000000 (omega (arith, few)))
    (steps_from-mean size guest (number + 1) texts steps (done ++ step ∷ []) h.1 (omega (arith, few, length-append done (step ∷ [])))
    ∙ ap (λ (l : List Action). Ok l) (append_assoc done (step ∷ []) steps))

-- ---- nothing in it is escaped

all-safe-append : (xs ys : List (List ℕ)) → AreAllSafe xs → AreAllSafe ys → AreAllSafe (xs ++ ys)
all-safe-append [] ys h k = k
all-safe-append (x ∷ xs) ys h k = (h.0, all-safe-append xs ys h.1 k)

idle-safe : (count : ℕ) → AreAllSafe (idle_steps count)
unfolding idle_steps
idle-safe zero = tt
idle-safe (suc count) = (refl, idle-safe count)

module _ (size : ℕ) (few : size ≤ 262144) where
  kept-safe : (number : ℕ) (kept : List RankedTouch) → Each (IsWithin size) kept → AreAllSafe (steps_of number kept)
  kept-safe number [] within = tt
  kept-safe number (touch ∷ kept) within = (step-safe size number touch few within.0, kept-safe number kept within.1)

  pub trace-safe : (quantum number idle : ℕ) (all : List (List RankedTouch)) → Each (Each (IsWithin size)) all
      → AreAllSafe (trace_behind quantum number idle all)
  trace-safe quantum number idle [] within = tt
  trace-safe quantum number idle (kept ∷ others) within =
      let next = idle_behind quantum (length kept) in
      let texts = trace_behind quantum (number + 1) next others in
      all-safe-append (idle_steps idle) (steps_of number kept ++ texts) (idle-safe idle)
      (all-safe-append (steps_of number kept) texts (kept-safe number kept within.0)
      (trace-safe quantum (number + 1) next others within.1))
