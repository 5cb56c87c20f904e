-- What is told of the guests at the positions so far, and of the next one.
use Rattle.std.proofs.Common.{Bool, true, false, if◌then◌else◌, drop, ◌≡◌, ℕ, zero, suc, ◌+◌, ◌<◌, List, [], ◌∷◌, ◌++◌, length, ap, ◌∙◌, sym, refl, arith, append_assoc, add-zero, add-one, slice_get, unwrap_or}
use Rattle.std.proofs.lemmas.List.{flat_map_more}
use Rattle.std.specs.List.{flat_map, range_with_len}
use Rattle.vm_sim.specs.Course.{autostart_lines, start_line}

range_more : (a n : ℕ) → range_with_len a (suc n) ≡ range_with_len a n ++ (a + n) ∷ []
range_more a zero = ap (λ (k : ℕ). k ∷ []) (sym (add-zero a))
range_more a (suc n) =
    let shifted : a + 1 + n ≡ a + suc n = omega arith in
    ap (λ (l : List ℕ). a ∷ l) (range_more (a + 1) n ∙ ap (λ (k : ℕ). range_with_len (a + 1) n ++ k ∷ []) shifted)

positions_more : (n : ℕ) → range_with_len 0 (n + 1) ≡ range_with_len 0 n ++ n ∷ []
positions_more n = rw add-one (range_more 0 n ∙ ap (λ (k : ℕ). range_with_len 0 n ++ k ∷ []) (omega arith))

-- after some text come the lines at the first positions, and then those at the next one
pub next_lines : (old new text : List ℕ) (lines : ℕ → List ℕ) (n : ℕ)
    → new ≡ old ++ lines n → old ≡ text ++ flat_map lines (range_with_len 0 n)
    → new ≡ text ++ flat_map lines (range_with_len 0 (n + 1))
next_lines old new text lines n more so_far =
    more ∙ ap (λ (l : List ℕ). l ++ lines n) so_far ∙ flat_map_more lines text (range_with_len 0 n) n
    ∙ ap (λ (l : List ℕ). text ++ flat_map lines l) (sym (positions_more n))

-- ---- the lines that start domains

no_flags : (names : List (List ℕ)) → autostart_lines names [] ≡ []
no_flags [] = refl
no_flags (name ∷ names) = refl

-- those at a position and behind it
starts_left : (names : List (List ℕ)) (flags : List Bool) (n : ℕ) → n < length names
    → autostart_lines (drop n names) (drop n flags)
    ≡ (if unwrap_or (slice_get flags n) false
    then start_line (unwrap_or (slice_get names n) []) ∷ autostart_lines (drop (suc n) names) (drop (suc n) flags)
    else autostart_lines (drop (suc n) names) (drop (suc n) flags))
starts_left [] flags n within = absurd (omega arith)
starts_left (name ∷ names) [] zero within = sym (no_flags names)
starts_left (name ∷ names) [] (suc n) within = no_flags (drop n names) ∙ sym (no_flags (drop (suc n) names))
starts_left (name ∷ names) (true ∷ flags) zero within = refl
starts_left (name ∷ names) (false ∷ flags) zero within = refl
starts_left (name ∷ names) (flag ∷ flags) (suc n) within = starts_left names flags n (omega arith)

module _ (names : List (List ℕ)) (flags : List Bool) (n : ℕ) (within : n < length names) (old new all : List (List ℕ))
    (so_far : old ++ autostart_lines (drop n names) (drop n flags) ≡ all) where
  -- the domain at the position has its line
  pub next_start : unwrap_or (slice_get flags n) false ≡ true → new ≡ old ++ start_line (unwrap_or (slice_get names n) []) ∷ []
      → new ++ autostart_lines (drop (n + 1) names) (drop (n + 1) flags) ≡ all
  next_start is more =
      let line = start_line (unwrap_or (slice_get names n) []) in
      let left = rw is at (starts_left names flags n within) in
      rw add-one (
      ap (λ (l : List (List ℕ)). l ++ autostart_lines (drop (suc n) names) (drop (suc n) flags)) more
      ∙ append_assoc old (line ∷ []) _ ∙ ap (λ (l : List (List ℕ)). old ++ l) (sym left) ∙ so_far)

  -- it has none
  pub no_start : unwrap_or (slice_get flags n) false ≡ false → new ≡ old
      → new ++ autostart_lines (drop (n + 1) names) (drop (n + 1) flags) ≡ all
  no_start is same =
      let left = rw is at (starts_left names flags n within) in
      rw add-one (
      ap (λ (l : List (List ℕ)). l ++ autostart_lines (drop (suc n) names) (drop (suc n) flags)) same
      ∙ ap (λ (l : List (List ℕ)). old ++ l) (sym left) ∙ so_far)
