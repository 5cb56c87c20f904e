-- The texts of a recorded guest's steps are read as its steps.
use Rattle.std.proofs.Common.{◌≡◌, ℕ, zero, suc, ◌+◌, ◌-◌, ◌≤◌, inl, inr, List, [], ◌∷◌, ◌++◌, codes, decimal, length, map, Option, Some, None, IfSome, Ok, refl, sym, ap, ap₂, ◌∙◌, arith, append_assoc, append-nil, length-append, le-leb, lt-ltb, le-ltb}
use Rattle.std.proofs.lemmas.Bool.{cases_lt}
use Rattle.std.proofs.lemmas.List.FromFn.{length-map-range_with_len}
use Rattle.std.specs.List.{AllByRecursion, range_with_len}
use Rattle.vm_config.specs.Reading.{steps_from as steps_read}
use Rattle.vm_config.specs.Versions.{version_3}
use Rattle.vm_recorded.specs.Traces.{epoch_of, freed, steps_from, steps_in as count_in, touched, trace_from, trace_of, used_after}
use Rattle.vm_laws.specs.RecordedSteps.{actions_from, actions_in, actions_of}
use Rattle.vm_laws.proofs.CountedLemmas.{limits, read-freed, read-touched, read-yield}
use Rattle.vm_laws.proofs.SafeLemmas.{AreSafe, safe-append, safe-decimal}
use Rattle.vm_trace.specs.Sized.{steps_in}
use Rattle.vm_trace.specs.declared.step.Action.{Action}
use Rattle.vm_trace.specs.declared.step.Action.TheVariants.{Free, Touch, Yield}

-- where there is room for the steps, the texts are read as these, and then what stands behind them
abbrev Reads : (size : ℕ) → List (List ℕ) → List Action → Type 0
Reads size texts steps =
    (guest number : ℕ) (rest : List (List ℕ)) (done : List Action) → length done + length steps ≤ 1000000
    → steps_read version_3 size guest number (texts ++ rest) done ≡ steps_read version_3 size guest (number + length texts) rest (done ++ steps)

reads-none : (size : ℕ) → Reads size [] []
reads-none size guest number rest done few =
    ap₂ (λ (n : ℕ) (l : List Action). steps_read version_3 size guest n rest l) (omega arith) (sym (append-nil done))

reads-one : (size : ℕ) (text : List ℕ) (steps : List Action) → steps_in limits size text ≡ Ok steps → Reads size (text ∷ []) steps
unfolding version_3
reads-one size text steps is guest number rest done few = rw (is, le-leb (length done + length steps) 1000000 few) refl

reads-append : (size : ℕ) (xs ys : List (List ℕ)) (firsts lasts : List Action) → Reads size xs firsts → Reads size ys lasts
    → Reads size (xs ++ ys) (firsts ++ lasts)
reads-append size xs ys firsts lasts h k guest number rest done few =
    let both = length-append firsts lasts in
    let so_far = length-append done firsts in
    let texts = length-append xs ys in
    ap (λ (l : List (List ℕ)). steps_read version_3 size guest number l done) (append_assoc xs ys rest)
    ∙ h guest number (ys ++ rest) done (omega (arith, few, both))
    ∙ k guest (number + length xs) rest (done ++ firsts) (omega (arith, few, both, so_far))
    ∙ ap₂ (λ (n : ℕ) (l : List Action). steps_read version_3 size guest n rest l) (omega (arith, texts)) (append_assoc done firsts lasts)

-- each use is at most so much
abbrev pub AreWithin : (size : ℕ) → List (Option ℕ) → Type 0
AreWithin size uses = AllByRecursion (λ used. IfSome used (λ units. units ≤ size)) uses

last-within : (size last : ℕ) (used : Option ℕ) → last ≤ size → IfSome used (λ units. units ≤ size) → used_after last used ≤ size
last-within size last None within is = within
last-within size last (Some used) within is = is

-- ---- steps

module _ (size : ℕ) (few : size ≤ 262144) where
  freed-reads : (last used : ℕ) → last ≤ size → Reads size (freed last used) (map Free (range_with_len used (last - used)))
  freed-reads last used within =
      elim (cases_lt used last) [
        | inl less ↦
            rw (lt-ltb used last less)
            (reads-one size (codes "f " ++ (decimal used ++ (codes " " ++ decimal (last - used)))) (map Free (range_with_len used (last - used)))
            (read-freed size few used (last - used) (omega (arith, less)) (omega (arith, less, within))))
        | inr more ↦
            let nothing : last - used ≡ 0 = omega (arith, more) in
            rw (le-ltb used last more, nothing) (reads-none size)
      ]

  touched-reads : (used : ℕ) → used ≤ size → Reads size (touched used) (map Touch (range_with_len 0 used))
  touched-reads zero within = reads-none size
  touched-reads (suc used) within =
      rw (lt-ltb 0 (suc used) (omega arith))
      (reads-one size (codes "t 0 " ++ decimal (suc used)) (map Touch (range_with_len 0 (suc used))) (read-touched size few (suc used) (omega arith) within))

  epoch-reads : (last : ℕ) (used : Option ℕ) → last ≤ size → IfSome used (λ units. units ≤ size) → Reads size (epoch_of last used) (actions_in last used)
  epoch-reads last None within is = reads-one size (codes "y") (Yield ∷ []) (read-yield size few)
  epoch-reads last (Some used) within is =
      reads-append size (freed last used) (touched used ++ codes "y" ∷ []) (map Free (range_with_len used (last - used)))
      (map Touch (range_with_len 0 used) ++ Yield ∷ []) (freed-reads last used within)
      (reads-append size (touched used) (codes "y" ∷ []) (map Touch (range_with_len 0 used)) (Yield ∷ []) (touched-reads used is)
      (reads-one size (codes "y") (Yield ∷ []) (read-yield size few)))

  trace-reads : (last : ℕ) (uses : List (Option ℕ)) → last ≤ size → AreWithin size uses → Reads size (trace_from last uses) (actions_from last uses)
  trace-reads last [] within are = reads-none size
  trace-reads last (used ∷ uses) within are =
      reads-append size (epoch_of last used) (trace_from (used_after last used) uses) (actions_in last used) (actions_from (used_after last used) uses)
      (epoch-reads last used within are.0) (trace-reads (used_after last used) uses (last-within size last used within are.0) are.1)

-- ---- how many

count-epoch : (last : ℕ) (used : Option ℕ) → length (actions_in last used) ≡ count_in last used
count-epoch last None = refl
count-epoch last (Some used) =
    let frees = length-map-range_with_len Free used (last - used) in
    let touches = length-map-range_with_len Touch 0 used in
    let both = length-append (map Free (range_with_len used (last - used))) (map Touch (range_with_len 0 used) ++ Yield ∷ []) in
    let others = length-append (map Touch (range_with_len 0 used)) (Yield ∷ []) in
    omega (arith, frees, touches, both, others)

count-from : (last : ℕ) (uses : List (Option ℕ)) → length (actions_from last uses) ≡ steps_from last uses
count-from last [] = refl
count-from last (used ∷ uses) =
    omega (arith, length-append (actions_in last used) (actions_from (used_after last used) uses), count-epoch last used, count-from (used_after last used) uses)

pub steps-counted : (uses : List (Option ℕ)) → length (actions_of uses) ≡ steps_from 0 uses
steps-counted uses = count-from 0 uses

-- no more texts than steps
texts-freed : (last used : ℕ) → length (freed last used) ≤ last - used
texts-freed last used =
    elim (cases_lt used last) [
      | inl less ↦ rw (lt-ltb used last less) (omega (arith, less))
      | inr more ↦ rw (le-ltb used last more) (omega arith)
    ]

texts-touched : (used : ℕ) → length (touched used) ≤ used
texts-touched zero = omega arith
texts-touched (suc used) = rw (lt-ltb 0 (suc used) (omega arith)) (omega arith)

texts-epoch : (last : ℕ) (used : Option ℕ) → length (epoch_of last used) ≤ count_in last used
texts-epoch last None = omega arith
texts-epoch last (Some used) =
    let both = length-append (freed last used) (touched used ++ codes "y" ∷ []) in
    let others = length-append (touched used) (codes "y" ∷ []) in
    omega (arith, both, others, texts-freed last used, texts-touched used)

texts-from : (last : ℕ) (uses : List (Option ℕ)) → length (trace_from last uses) ≤ steps_from last uses
texts-from last [] = omega arith
texts-from last (used ∷ uses) =
    omega (arith, length-append (epoch_of last used) (trace_from (used_after last used) uses), texts-epoch last used, texts-from (used_after last used) uses)

pub few-texts : (uses : List (Option ℕ)) → length (trace_of uses) ≤ steps_from 0 uses
few-texts uses = texts-from 0 uses

-- the whole trace
pub steps-read : (size guest : ℕ) (uses : List (Option ℕ)) → size ≤ 262144 → AreWithin size uses → steps_from 0 uses ≤ 1000000
    → steps_read version_3 size guest 0 (trace_of uses) [] ≡ Ok (actions_of uses)
steps-read size guest uses few within short =
    ap (λ (l : List (List ℕ)). steps_read version_3 size guest 0 l []) (sym (append-nil (trace_of uses)))
    ∙ trace-reads size few 0 uses (omega arith) within guest 0 [] [] (omega (arith, short, steps-counted uses))

-- ---- nothing in it is escaped

all-append : (xs ys : List (List ℕ)) → AllByRecursion AreSafe xs → AllByRecursion AreSafe ys → AllByRecursion AreSafe (xs ++ ys)
all-append [] ys are these = these
all-append (x ∷ xs) ys are these = (are.0, all-append xs ys are.1 these)

module _ (size : ℕ) (few : size ≤ 262144) where
  freed-safe : (last used : ℕ) → last ≤ size → AllByRecursion AreSafe (freed last used)
  freed-safe last used within =
      elim (cases_lt used last) [
        | inl less ↦
            let count = decimal (last - used) in
            let is : AreSafe (codes "f " ++ (decimal used ++ (codes " " ++ count))) =
            safe-append (codes "f ") (decimal used ++ (codes " " ++ count)) refl
            (safe-append (decimal used) (codes " " ++ count) (safe-decimal used (omega (arith, less, within, few)))
            (safe-append (codes " ") count refl (safe-decimal (last - used) (omega (arith, within, few))))) in
            rw (lt-ltb used last less) (is, tt)
        | inr more ↦ rw (le-ltb used last more) tt
      ]

  touched-safe : (used : ℕ) → used ≤ size → AllByRecursion AreSafe (touched used)
  touched-safe zero within = tt
  touched-safe (suc used) within =
      let is : AreSafe (codes "t 0 " ++ decimal (suc used)) =
      safe-append (codes "t 0 ") (decimal (suc used)) refl (safe-decimal (suc used) (omega (arith, within, few))) in
      rw (lt-ltb 0 (suc used) (omega arith)) (is, tt)

  epoch-safe : (last : ℕ) (used : Option ℕ) → last ≤ size → IfSome used (λ units. units ≤ size) → AllByRecursion AreSafe (epoch_of last used)
  epoch-safe last None within is = (refl, tt)
  epoch-safe last (Some used) within is =
      all-append (freed last used) (touched used ++ codes "y" ∷ []) (freed-safe last used within)
      (all-append (touched used) (codes "y" ∷ []) (touched-safe used is) (refl, tt))

  trace-safe : (last : ℕ) (uses : List (Option ℕ)) → last ≤ size → AreWithin size uses → AllByRecursion AreSafe (trace_from last uses)
  trace-safe last [] within are = tt
  trace-safe last (used ∷ uses) within are =
      all-append (epoch_of last used) (trace_from (used_after last used) uses) (epoch-safe last used within are.0)
      (trace-safe (used_after last used) uses (last-within size last used within are.0) are.1)

  pub steps-safe : (uses : List (Option ℕ)) → AreWithin size uses → AllByRecursion AreSafe (trace_of uses)
  steps-safe uses within = trace-safe 0 uses (omega arith) within
