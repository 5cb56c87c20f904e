-- What words stand for, by their number.
use Rattle.std.proofs.Common.{◌≡◌, ℕ, ◌<◌, ◌≤◌, ◌&&◌, ◌⊎◌, inl, inr, cond, List, [], ◌∷◌, length, map, get_or, codes, bytes_eq, Err, refl, arith}
use Rattle.std.specs.Borrow.{Bor}
use Rattle.vm_trace.specs.declared.error.TraceError.TheVariants.{Unknown}
use Rattle.vm_trace.specs.declared.limits.StepLimits.{StepLimits}
use Rattle.vm_trace.specs.Meaning.{step_of_words, alone, steps_on, steps_of_words}
use Rattle.vm_trace.specs.declared.step.Action.TheVariants.{Touch, Free}

-- the bytes of word i, as a slice pattern reads them
abbrev pub word : List (Bor (List ℕ)) → ℕ → List ℕ
word ws i = (get_or ws i (record { ref_ptr = (0, 0); now = [] })).now

-- what the words are
abbrev pub texts : List (Bor (List ℕ)) → List (List ℕ)
texts ws = map (λ w. w.now) ws

pub one_word : (ws : List (Bor (List ℕ))) → 1 ≤ length ws → length ws < 2 → texts ws ≡ word ws 0 ∷ []
one_word [] g h = absurd (omega arith)
one_word (a ∷ []) g h = refl
one_word (a ∷ b ∷ ws) g h = absurd (omega arith)

pub two_words : (ws : List (Bor (List ℕ))) → 2 ≤ length ws → length ws < 3 → texts ws ≡ word ws 0 ∷ word ws 1 ∷ []
two_words [] g h = absurd (omega arith)
two_words (a ∷ []) g h = absurd (omega arith)
two_words (a ∷ b ∷ []) g h = refl
two_words (a ∷ b ∷ c ∷ ws) g h = absurd (omega arith)

pub three_words : (ws : List (Bor (List ℕ))) → 3 ≤ length ws → length ws < 4 → texts ws ≡ word ws 0 ∷ word ws 1 ∷ word ws 2 ∷ []
three_words [] g h = absurd (omega arith)
three_words (a ∷ []) g h = absurd (omega arith)
three_words (a ∷ b ∷ []) g h = absurd (omega arith)
three_words (a ∷ b ∷ c ∷ []) g h = refl
three_words (a ∷ b ∷ c ∷ d ∷ ws) g h = absurd (omega arith)

pub four_words : (ws : List (Bor (List ℕ))) → 4 ≤ length ws → length ws < 5 → texts ws ≡ word ws 0 ∷ word ws 1 ∷ word ws 2 ∷ word ws 3 ∷ []
four_words [] g h = absurd (omega arith)
four_words (a ∷ []) g h = absurd (omega arith)
four_words (a ∷ b ∷ []) g h = absurd (omega arith)
four_words (a ∷ b ∷ c ∷ []) g h = absurd (omega arith)
four_words (a ∷ b ∷ c ∷ d ∷ []) g h = refl
four_words (a ∷ b ∷ c ∷ d ∷ e ∷ ws) g h = absurd (omega arith)

-- three words stand for as many steps as they count, or for one
pub three_steps : (limits : StepLimits) (ws : List (Bor (List ℕ))) → 3 ≤ length ws → length ws < 4
    → steps_of_words limits (texts ws)
    ≡ cond (limits.version_3 && bytes_eq (word ws 0) (codes "t")) (steps_on limits.pages Touch (word ws 1) (word ws 2))
    (cond (limits.version_3 && bytes_eq (word ws 0) (codes "f")) (steps_on limits.pages Free (word ws 1) (word ws 2)) (alone (step_of_words limits (texts ws))))
unfolding steps_of_words
three_steps limits [] g h = absurd (omega arith)
three_steps limits (a ∷ []) g h = absurd (omega arith)
three_steps limits (a ∷ b ∷ []) g h = absurd (omega arith)
three_steps limits (a ∷ b ∷ c ∷ []) g h = refl
three_steps limits (a ∷ b ∷ c ∷ d ∷ ws) g h = absurd (omega arith)

-- and other words for one
pub not_three : (limits : StepLimits) (ws : List (Bor (List ℕ))) → (length ws < 3) ⊎ (3 < length ws) → steps_of_words limits (texts ws) ≡ alone (step_of_words limits (texts ws))
unfolding steps_of_words
not_three limits [] other = refl
not_three limits (a ∷ []) other = refl
not_three limits (a ∷ b ∷ []) other = refl
not_three limits (a ∷ b ∷ c ∷ []) other = absurd (elim other [ inl few ↦ omega (arith, few) | inr many ↦ omega (arith, many) ])
not_three limits (a ∷ b ∷ c ∷ d ∷ ws) other = refl

-- more words than any step has
pub many_words : (limits : StepLimits) (ws : List (List ℕ)) → 5 ≤ length ws → steps_of_words limits ws ≡ Err Unknown
unfolding step_of_words steps_of_words
many_words limits [] h = absurd (omega arith)
many_words limits (a ∷ []) h = absurd (omega arith)
many_words limits (a ∷ b ∷ []) h = absurd (omega arith)
many_words limits (a ∷ b ∷ c ∷ []) h = absurd (omega arith)
many_words limits (a ∷ b ∷ c ∷ d ∷ []) h = absurd (omega arith)
many_words limits (a ∷ b ∷ c ∷ d ∷ e ∷ ws) h = refl
