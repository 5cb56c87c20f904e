-- A stretch that is written to a page, seen through a window of the page.
use Rattle.std.proofs.Common.{◌≡◌, ℕ, ◌+◌, ◌-◌, ◌<◌, ◌≤◌, ◌⊎◌, List, ◌++◌, length, take, drop, get_or, slice_range, max, min, append_assoc, sym, ap, ◌∙◌, inl, inr, arith}
use Rattle.std.proofs.lemmas.Bool.{cases_lt}
use Rattle.std.proofs.lemmas.List.{drop-drop, ext_get_or, get_or-drop, get_or-take, length-drop, length-take-le}
use Rattle.vm_patches.specs.Patches.{overwritten}
use Rattle.vm_patches.proofs.Masks.{at-before, at-past, at-within, length-placed}

module _ (page stretch bytes : List ℕ) (start offset size : ℕ) (long : length page ≡ 4096) (within : start + length stretch ≤ 4096) (inside : offset + size ≤ 4096)
    (seen : bytes ≡ slice_range page offset (offset + size)) where
  -- the page after it, in the form of the lemmas on k bytes in place of others
  abbrev placed : List ℕ
  placed = take start page ++ (stretch ++ drop (length stretch) (drop start page))

  placed-is : placed ≡ overwritten page start stretch
  placed-is =
      ap (λ rest. take start page ++ (stretch ++ rest)) (drop-drop (length stretch) start page)
      ∙ sym (append_assoc (take start page) stretch (drop (start + length stretch) page))

  fits : start ≤ length page
  fits = omega (arith, long, within)

  long_after : length placed ≡ 4096
  long_after = length-placed page stretch start (length stretch) fits (λ i. length stretch) (omega (arith, long, within)) ∙ long

  at-window : (xs : List ℕ) (i : ℕ) → i < size → get_or (slice_range xs offset (offset + size)) i 0 ≡ get_or xs (offset + i) 0
  at-window xs i below = get_or-take (offset + size - offset) (drop offset xs) i 0 (omega (arith, below)) ∙ get_or-drop offset xs i 0

  length-window : (xs : List ℕ) → length xs ≡ 4096 → length (slice_range xs offset (offset + size)) ≡ size
  length-window xs is = length-take-le (offset + size - offset) (drop offset xs) (omega (arith, is, inside, length-drop offset xs)) ∙ omega arith

  -- bytes that are those of the page after it, one by one
  window-is : (after : List ℕ) → length after ≡ size → ((i : ℕ) → i < size → get_or after i 0 ≡ get_or placed (offset + i) 0)
      → after ≡ slice_range (overwritten page start stretch) offset (offset + size)
  window-is after count each =
      ext_get_or 0 after (slice_range placed offset (offset + size)) (count ∙ sym (length-window placed long_after))
      (λ i below. let less : i < size = omega (arith, below, count) in each i less ∙ sym (at-window placed i less))
      ∙ ap (λ xs. slice_range xs offset (offset + size)) placed-is

  before : (i : ℕ) → i < size → offset + i < start → get_or bytes i 0 ≡ get_or placed (offset + i) 0
  before i below less = ap (λ xs. get_or xs i 0) seen ∙ at-window page i below ∙ sym (at-before page stretch start (length stretch) fits (λ j. length stretch) (offset + i) less)

  past : (i : ℕ) → i < size → start + length stretch ≤ offset + i → get_or bytes i 0 ≡ get_or placed (offset + i) 0
  past i below on = ap (λ xs. get_or xs i 0) seen ∙ at-window page i below ∙ sym (at-past page stretch start (length stretch) fits (λ j. length stretch) (offset + i) on)

  -- none of it is in the window
  pub laid-outside : (offset + size ≤ start) ⊎ (start + length stretch ≤ offset) → bytes ≡ slice_range (overwritten page start stretch) offset (offset + size)
  laid-outside apart =
      window-is bytes (ap length seen ∙ length-window page long)
      (λ i below. elim apart [
        | inl ahead ↦ before i below (omega (arith, ahead, below))
        | inr behind ↦ past i below (omega (arith, behind))
      ])

  -- what of it is in the window, from `from` to `to`, is put into the bytes
  pub laid-inside : (part : List ℕ) (from to a k : ℕ) → from ≡ max start offset → to ≡ min (start + length stretch) (offset + size)
      → start < offset + size → offset < start + length stretch → a ≡ from - offset → k ≡ to - offset - a → part ≡ slice_range stretch (from - start) (to - start)
      → take a bytes ++ (part ++ drop k (drop a bytes)) ≡ slice_range (overwritten page start stretch) offset (offset + size)
  laid-inside part from to a k from-is to-is below above a-is k-is part-is =
      window-is after (length-placed bytes part a k fits_bytes part_size (omega (arith, count, from-is, to-is, a-is, k-is, below, above)) ∙ count) each
    where
      after : List ℕ
      after = take a bytes ++ (part ++ drop k (drop a bytes))

      count : length bytes ≡ size
      count = ap length seen ∙ length-window page long

      fits_bytes : a ≤ length bytes
      fits_bytes = omega (arith, count, from-is, a-is, below)

      part_size : length part ≡ k
      part_size =
          ap length part-is
          ∙ length-take-le (to - start - (from - start)) (drop (from - start) stretch) (omega (arith, length-drop (from - start) stretch, from-is, to-is))
          ∙ omega (arith, from-is, to-is, a-is, k-is, below, above)

      at-part : (i : ℕ) → a ≤ i → i < a + k → get_or part (i - a) 0 ≡ get_or stretch (offset + i - start) 0
      at-part i on less =
          let is : from - start + (i - a) ≡ offset + i - start = omega (arith, from-is, a-is, on) in
          ap (λ xs. get_or xs (i - a) 0) part-is
          ∙ get_or-take (to - start - (from - start)) (drop (from - start) stretch) (i - a) 0 (omega (arith, on, less, from-is, to-is, a-is, k-is, below, above))
          ∙ get_or-drop (from - start) stretch (i - a) 0
          ∙ ap (λ j. get_or stretch j 0) is

      each : (i : ℕ) → i < size → get_or after i 0 ≡ get_or placed (offset + i) 0
      each i less =
          elim (cases_lt i a) [
            | inl ahead ↦ at-before bytes part a k fits_bytes part_size i ahead ∙ before i less (omega (arith, ahead, from-is, a-is))
            | inr on ↦
                elim (cases_lt i (a + k)) [
                  | inl short ↦
                      at-within bytes part a k fits_bytes part_size i on short ∙ at-part i on short
                      ∙ sym (at-within page stretch start (length stretch) fits (λ j. length stretch) (offset + i) (omega (arith, on, a-is, from-is)) (omega (arith, short, a-is, k-is, from-is, to-is, below, above)))
                  | inr behind ↦ at-past bytes part a k fits_bytes part_size i behind ∙ past i less (omega (arith, behind, less, a-is, k-is, from-is, to-is, below, above))
                ]
          ]
