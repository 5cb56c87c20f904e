-- The steps of one more interval.
use Rattle.std.proofs.Common.{◌≡◌, ◌∙◌, ℕ, suc, ◌+◌, List, [], ◌∷◌, ◌++◌, length, refl, ap, arith, append_assoc}
use Rattle.std.proofs.lemmas.List.{append-nil}
use Rattle.vm_import.specs.declared.touch.RankedTouch.{RankedTouch}
use Rattle.vm_import.specs.Progress.{idle_next}
use Rattle.vm_import.specs.Steps.{idle_behind, idle_steps, steps_of, trace_behind, trace_of}

-- the idle steps before an interval behind others, of which the first is behind so many
next_of : (quantum idle : ℕ) → List (List RankedTouch) → ℕ
next_of quantum idle [] = idle
next_of quantum idle (kept ∷ others) = idle_next quantum (kept ∷ others)

next_of-cons : (quantum : ℕ) (kept : List RankedTouch) (others : List (List RankedTouch))
    → next_of quantum (idle_behind quantum (length kept)) others ≡ idle_next quantum (kept ∷ others)
unfolding next_of
next_of-cons quantum kept [] = refl
next_of-cons quantum kept (next ∷ others) = refl

next_of-none : (quantum : ℕ) (others : List (List RankedTouch)) → next_of quantum 0 others ≡ idle_next quantum others
unfolding next_of
next_of-none quantum [] = refl
next_of-none quantum (kept ∷ others) = refl

trace_behind-more : (quantum number idle : ℕ) (others : List (List RankedTouch)) (kept : List RankedTouch)
    → trace_behind quantum number idle (others ++ kept ∷ [])
    ≡ trace_behind quantum number idle others ++ (idle_steps (next_of quantum idle others) ++ steps_of (number + length others) kept)
unfolding next_of
trace_behind-more quantum number idle [] kept =
    let same : number + 0 ≡ number = omega arith in
    rw (same, append-nil (steps_of number kept)) refl
trace_behind-more quantum number idle (first ∷ others) kept =
    let same : number + 1 + length others ≡ number + suc (length others) = omega arith in
    let next = idle_behind quantum (length first) in
    let tail : trace_behind quantum (number + 1) next (others ++ kept ∷ [])
    ≡ trace_behind quantum (number + 1) next others
    ++ (idle_steps (idle_next quantum (first ∷ others)) ++ steps_of (number + suc (length others)) kept) =
    trace_behind-more quantum (number + 1) next others kept
    ∙ ap (λ (n : ℕ). trace_behind quantum (number + 1) next others ++ (idle_steps n ++ steps_of (number + 1 + length others) kept))
    (next_of-cons quantum first others)
    ∙ ap (λ (n : ℕ). trace_behind quantum (number + 1) next others ++ (idle_steps (idle_next quantum (first ∷ others)) ++ steps_of n kept)) same in
    ap (λ (l : List (List ℕ)). idle_steps idle ++ (steps_of number first ++ l)) tail
    ∙ simp append_assoc

-- behind idle steps that fill the epoch of the last of the others
pub trace_of-more : (quantum : ℕ) (others : List (List RankedTouch)) (kept : List RankedTouch)
    → trace_of quantum (others ++ kept ∷ [])
    ≡ trace_of quantum others ++ (idle_steps (idle_next quantum others) ++ steps_of (1 + length others) kept)
unfolding trace_of
trace_of-more quantum others kept =
    trace_behind-more quantum 1 0 others kept
    ∙ ap (λ (n : ℕ). trace_behind quantum 1 0 others ++ (idle_steps n ++ steps_of (1 + length others) kept)) (next_of-none quantum others)

-- after an interval
pub idle_next-more : (quantum : ℕ) (others : List (List RankedTouch)) (kept : List RankedTouch)
    → idle_next quantum (others ++ kept ∷ []) ≡ idle_behind quantum (length kept)
idle_next-more quantum [] kept = refl
idle_next-more quantum (first ∷ []) kept = refl
idle_next-more quantum (first ∷ second ∷ others) kept = idle_next-more quantum (second ∷ others) kept
