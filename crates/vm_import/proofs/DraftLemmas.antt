-- Drafts with more steps.
use Rattle.std.proofs.Common.{◌≡◌, ◌∙◌, ℕ, zero, suc, ◌+◌, ◌-◌, ◌==◌, ◌<◌, ◌≤◌, List, [], ◌∷◌, ◌++◌, codes, length, if◌then◌else◌, refl, sym, ap, arith, append_assoc, length-append}
use Rattle.std.proofs.lemmas.List.{append-nil}
use Rattle.vm_import.specs.Drafts.{DraftView, listed_behind, with_steps}
use Rattle.vm_import.specs.Steps.{idle_steps}
use Rattle.vm_import.specs.Texts.{quoted}
use Rattle.vm_import.proofs.TextLemmas.{listed_behind-append}

-- steps that are added one after the other
pub with_steps-then : (draft : DraftView) (xs ys : List (List ℕ)) → with_steps (with_steps draft xs) ys ≡ with_steps draft (xs ++ ys)
with_steps-then draft xs ys =
    let text : (draft.text ++ listed_behind draft.steps xs) ++ listed_behind (draft.steps + length xs) ys
    ≡ draft.text ++ listed_behind draft.steps (xs ++ ys) =
    append_assoc draft.text (listed_behind draft.steps xs) _
    ∙ ap (λ (l : List ℕ). draft.text ++ l) (sym (listed_behind-append draft.steps xs ys)) in
    let steps : draft.steps + length xs + length ys ≡ draft.steps + length (xs ++ ys) = omega (arith, length-append xs ys) in
    λ i. record { text = text i; written = draft.written; steps = steps i }

pub with_steps-none : (draft : DraftView) → with_steps draft [] ≡ draft
with_steps-none draft =
    let text : draft.text ++ [] ≡ draft.text = append-nil draft.text in
    let steps : draft.steps + 0 ≡ draft.steps = omega arith in
    λ i. record { text = text i; written = draft.written; steps = steps i }

-- one step, piece by piece
pub with_one : (draft : DraftView) (step text : List ℕ)
    → text ≡ ((draft.text ++ ((if draft.steps == 0 then [] else codes ",") ++ codes "\"")) ++ step) ++ codes "\""
    → record { text = text; written = draft.written; steps = draft.steps + 1 } ≡ with_steps draft (step ∷ [])
unfolding quoted
with_one draft step text is =
    let pieces : text ≡ draft.text ++ ((if draft.steps == 0 then [] else codes ",") ++ (quoted step ++ [])) =
    is ∙ simp (append_assoc, append-nil) in
    λ i. record { text = pieces i; written = draft.written; steps = draft.steps + 1 }

-- the first of some idle steps
pub idle_steps-first : (count : ℕ) → 0 < count → idle_steps count ≡ codes "i" ∷ idle_steps (count - 1)
unfolding idle_steps
idle_steps-first zero some = absurd (omega arith)
idle_steps-first (suc count) some = let same : suc count - 1 ≡ count = omega arith in rw same refl

-- what is left of idle steps completes them
pub idle-left : (start draft next : DraftView) (added count : ℕ) → added < count → next ≡ with_steps draft (codes "i" ∷ [])
    → with_steps draft (idle_steps (count - added)) ≡ with_steps start (idle_steps count)
    → with_steps next (idle_steps (count - (added + 1))) ≡ with_steps start (idle_steps count)
idle-left start draft next added count less is left =
    let same : count - added - 1 ≡ count - (added + 1) = omega arith in
    ap (λ (d : DraftView). with_steps d (idle_steps (count - (added + 1)))) is
    ∙ with_steps-then draft (codes "i" ∷ []) (idle_steps (count - (added + 1)))
    ∙ ap (λ (n : ℕ). with_steps draft (codes "i" ∷ idle_steps n)) (sym same)
    ∙ ap (with_steps draft) (sym (idle_steps-first (count - added) (omega arith)))
    ∙ left

pub idle-done : (start draft : DraftView) (added count : ℕ) → count ≤ added
    → with_steps draft (idle_steps (count - added)) ≡ with_steps start (idle_steps count) → draft ≡ with_steps start (idle_steps count)
unfolding idle_steps
idle-done start draft added count all left =
    let none : count - added ≡ 0 = omega arith in
    sym (ap (λ (n : ℕ). with_steps draft (idle_steps n)) none ∙ with_steps-none draft) ∙ left
