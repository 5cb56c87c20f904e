-- Samples cut into epochs.
use Rattle.std.proofs.Common.{◌≡◌, ◌∙◌, ℕ, zero, suc, ◌+◌, ◌-◌, ◌*◌, ◌/◌, ◌%◌, ◌<◌, ◌≤◌, Bool, true, false, List, [], ◌∷◌, ◌++◌, drop, length, map, min, take, refl, sym, ap, subst, arith}
use Rattle.std.proofs.Math.Seq.{take-length}
use Rattle.std.proofs.lemmas.List.{append-nil, drop-append-le, length-append, length-drop, length-map, map-append, take-append-le}
use Rattle.std.proofs.Math.Nat.{lt_of_mul-lt-mul_right}
use Rattle.std.proofs.lemmas.Grind.{div_ceil_times}
use Rattle.std.specs.Int.{div_ceil}
use Rattle.vm_steer.specs.Entries.{EntryView}
use Rattle.vm_log.specs.Epochs.{cut, epochs_of, uses_of}
use Rattle.vm_log.specs.Seen.{use_in}

none_left : {A : Type 0} (xs : List A) → length xs ≡ 0 → xs ≡ []
none_left [] e = refl
none_left (x ∷ xs) e = absurd (omega arith)

take_all : {A : Type 0} (n : ℕ) (xs : List A) → length xs ≤ n → take n xs ≡ xs
take_all zero [] h = refl
take_all zero (x ∷ xs) h = absurd (omega arith)
take_all (suc n) [] h = refl
take_all (suc n) (x ∷ xs) h = ap (λ l. x ∷ l) (take_all n xs (omega arith))

-- behind whole epochs one more
cut-more : (every count : ℕ) (closed open_ : List (List EntryView)) → length closed ≡ count * every → length open_ ≤ every
    → cut every (suc count) (closed ++ open_) ≡ cut every count closed ++ open_ ∷ []
cut-more every zero closed open_ whole few =
    let none : closed ≡ [] = none_left closed (omega (arith, whole)) in
    ap (λ (c : List (List EntryView)). take every (c ++ open_) ∷ []) none ∙ ap (λ l. l ∷ []) (take_all every open_ few)
cut-more every (suc count) closed open_ whole few =
    let all : length closed ≡ every + count * every = omega (arith, whole) in
    let there : every ≤ length closed = omega (arith, all) in
    let rest : length (drop every closed) ≡ count * every = omega (arith, all, length-drop every closed) in
    (λ i. take-append-le every closed open_ there i ∷ cut every (suc count) (drop-append-le every closed open_ there i))
    ∙ ap (λ l. take every closed ∷ l) (cut-more every count (drop every closed) open_ rest few)

module _ (every count : ℕ) (some : 0 < every) where
  whole_count : (long : ℕ) → long ≡ count * every → div_ceil long every ≡ count
  whole_count long whole =
      let bounds = div_ceil_times long every some in
      let low : count * every < (div_ceil long every + 1) * every = omega (arith, whole, bounds.0, some) in
      let high : div_ceil long every * every < (count + 1) * every = omega (arith, whole, bounds.1) in
      let a = lt_of_mul-lt-mul_right every low in
      let b = lt_of_mul-lt-mul_right every high in
      omega (arith, a, b)

  more_count : (long more : ℕ) → long ≡ count * every + more → 1 ≤ more → more ≤ every → div_ceil long every ≡ suc count
  more_count long more whole one few =
      let bounds = div_ceil_times long every some in
      let low : count * every < div_ceil long every * every = omega (arith, whole, bounds.0, one) in
      let high : div_ceil long every * every < (count + 2) * every = omega (arith, whole, bounds.1, few) in
      let a = lt_of_mul-lt-mul_right every low in
      let b = lt_of_mul-lt-mul_right every high in
      omega (arith, a, b)

  -- an open epoch behind whole ones
  pub epochs-open : (closed opened : List (List EntryView)) → length closed ≡ count * every → 1 ≤ length opened → length opened ≤ every
      → epochs_of every (closed ++ opened) ≡ epochs_of every closed ++ opened ∷ []
  epochs-open closed opened whole one few =
      ap (λ (n : ℕ). cut every n (closed ++ opened)) (more_count (length (closed ++ opened)) (length opened) (omega (arith, whole, length-append closed opened)) one few)
      ∙ (cut-more every count closed opened whole few
      ∙ ap (λ (n : ℕ). cut every n closed ++ opened ∷ []) (sym (whole_count (length closed) whole)))

  pub uses-open : (name : List ℕ) (closed opened : List (List EntryView)) → length closed ≡ count * every → 1 ≤ length opened → length opened ≤ every
      → uses_of every name (closed ++ opened) ≡ uses_of every name closed ++ use_in name opened ∷ []
  uses-open name closed opened whole one few =
      ap (map (use_in name)) (epochs-open closed opened whole one few) ∙ map-append (use_in name) (epochs_of every closed) (opened ∷ [])

  length-cut : (n : ℕ) (samples : List (List EntryView)) → length (cut every n samples) ≡ n
  length-cut zero samples = refl
  length-cut (suc n) samples = ap suc (length-cut n (drop every samples))

  pub length-epochs : (closed : List (List EntryView)) → length closed ≡ count * every → length (epochs_of every closed) ≡ count
  length-epochs closed whole = length-cut (div_ceil (length closed) every) closed ∙ whole_count (length closed) whole

  pub length-epochs-open : (closed opened : List (List EntryView)) → length closed ≡ count * every → 1 ≤ length opened → length opened ≤ every
      → length (epochs_of every (closed ++ opened)) ≡ suc count
  length-epochs-open closed opened whole one few =
      length-cut (div_ceil (length (closed ++ opened)) every) (closed ++ opened)
      ∙ more_count (length (closed ++ opened)) (length opened) (omega (arith, whole, length-append closed opened)) one few
