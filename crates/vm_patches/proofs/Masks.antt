-- What a page contains of which some lines were written, and what a write or a cleared line makes of it.
use Rattle.std.proofs.Common.{◌≡◌, ◌≢◌, ℕ, ◌+◌, ◌-◌, ◌*◌, ◌/◌, ◌<◌, ◌≤◌, true, false, eqb, cond, List, ◌++◌, length, take, drop, set, get_or, replicate, slice_range, ◌⊎◌, append_assoc, sym, ap, ◌∙◌, inl, inr, arith}
use Rattle.std.proofs.lemmas.Bool.{cases_eq, cases_lt, eq-eqb, ne_eqb}
use Rattle.std.proofs.lemmas.List.{length-take-le, length-drop, drop-drop, length-append, length-replicate, length-set, ext_get_or, get_or-take, get_or-drop, get_or-append_right, get_or_append_left, get_or-replicate, get_or-set_same, get_or-set_other}
use Rattle.std.proofs.lemmas.List.FromFn.{length-map-range_with_len, get_or-map-range_with_len, fill_by_all}
use Rattle.std.proofs.lemmas.Nat.Bits.{bit_at-zero}
use Rattle.vm_patches.specs.declared.lines.LineSet.{LineSet}
use Rattle.vm_patches.specs.Lines.{is_marked, masked, masked_byte, no_lines}
use Rattle.vm_patches.specs.Patches.{overwritten, zero_bytes}
use Rattle.vm_patches.proofs.Zeros.{zero_bytes-is}

pub length-masked : (lines : LineSet) (bytes : List ℕ) → length (masked lines bytes) ≡ 4096
unfolding masked
length-masked lines bytes = length-map-range_with_len (masked_byte lines bytes) 0 4096

pub at-masked : (lines : LineSet) (bytes : List ℕ) (i : ℕ) → i < 4096 → get_or (masked lines bytes) i 0 ≡ masked_byte lines bytes i
unfolding masked
at-masked lines bytes i below = get_or-map-range_with_len (masked_byte lines bytes) 0 4096 i i 0 below (omega arith)

pub masked-is : (lines : LineSet) (bytes after : List ℕ) → length after ≡ 4096 → ((i : ℕ) → i < 4096 → get_or after i 0 ≡ masked_byte lines bytes i) → after ≡ masked lines bytes
unfolding masked
masked-is lines bytes after long each = fill_by_all (masked_byte lines bytes) after 4096 0 long each

-- where no line was written, all bytes are zeros
pub masked-none : (bytes : List ℕ) → masked no_lines bytes ≡ zero_bytes
masked-none bytes =
    sym (masked-is no_lines bytes (replicate 4096 0) (length-replicate {A = ℕ} 4096 0)
    (λ i below. get_or-replicate 4096 i 0 0 below ∙ ap (λ bit. cond (eqb bit 1) (get_or bytes i 0) 0) (sym (bit_at-zero (i / 64)))))
    ∙ zero_bytes-is

-- ---- k bytes in place of those from o on

module _ (xs new : List ℕ) (o k : ℕ) (fits : o ≤ length xs) (size : length new ≡ k) where
  pub at-before : (i : ℕ) → i < o → get_or (take o xs ++ (new ++ drop k (drop o xs))) i 0 ≡ get_or xs i 0
  at-before i before = get_or_append_left (take o xs) (new ++ drop k (drop o xs)) 0 i (omega (arith, before, length-take-le o xs fits)) ∙ get_or-take o xs i 0 before

  pub at-within : (i : ℕ) → o ≤ i → i < o + k → get_or (take o xs ++ (new ++ drop k (drop o xs))) i 0 ≡ get_or new (i - o) 0
  at-within i from below =
      get_or-append_right (take o xs) (new ++ drop k (drop o xs)) o i 0 (length-take-le o xs fits) from
      ∙ get_or_append_left new (drop k (drop o xs)) 0 (i - o) (omega (arith, from, below, size))

  pub at-past : (i : ℕ) → o + k ≤ i → get_or (take o xs ++ (new ++ drop k (drop o xs))) i 0 ≡ get_or xs i 0
  at-past i past =
      let on : o + (k + (i - o - k)) ≡ i = omega (arith, past) in
      get_or-append_right (take o xs) (new ++ drop k (drop o xs)) o i 0 (length-take-le o xs fits) (omega (arith, past))
      ∙ get_or-append_right new (drop k (drop o xs)) k (i - o) 0 size (omega (arith, past))
      ∙ get_or-drop k (drop o xs) (i - o - k) 0
      ∙ get_or-drop o xs (k + (i - o - k)) 0
      ∙ ap (λ j. get_or xs j 0) on

  pub length-placed : o + k ≤ length xs → length (take o xs ++ (new ++ drop k (drop o xs))) ≡ length xs
  length-placed within =
      omega (arith, within, size, length-append (take o xs) (new ++ drop k (drop o xs)), length-append new (drop k (drop o xs)), length-take-le o xs fits, length-drop k (drop o xs), length-drop o xs)

-- zeros in place of a line, as far as the bytes from `offset` on have it
pub blanked : (bytes new : List ℕ) (line offset start end : ℕ) → start ≡ line * 64 - offset → new ≡ replicate (end - start) 0
    → start ≤ end → end ≤ length bytes → (line * 64 + 64 ≤ offset + end) ⊎ (length bytes ≤ end) → end ≤ line * 64 + 64 - offset → offset < line * 64 + 64
    → (i : ℕ) → i < length bytes
    → get_or (take start bytes ++ (new ++ drop (end - start) (drop start bytes))) i 0 ≡ cond (eqb ((offset + i) / 64) line) 0 (get_or bytes i 0)
blanked bytes new line offset start end from is order within whole cut after i below =
    elim (cases_lt i start) [
      | inl before ↦
          rw (ne_eqb ((offset + i) / 64) line (λ e. omega (arith, e, from, before))) (at-before bytes new start (end - start) fits long i before)
      | inr on ↦
          elim (cases_lt i end) [
            | inl inside ↦
                rw (eq-eqb ((offset + i) / 64) line (omega (arith, from, on, inside, cut, after)))
                (at-within bytes new start (end - start) fits long i on (omega (arith, inside, order))
                ∙ ap (λ ys. get_or ys (i - start) 0) is ∙ get_or-replicate (end - start) (i - start) 0 0 (omega (arith, on, inside)))
            | inr past ↦
                rw (ne_eqb ((offset + i) / 64) line (outside past)) (at-past bytes new start (end - start) fits long i (omega (arith, order, past)))
          ]
    ]
  where
    fits : start ≤ length bytes
    fits = omega (arith, order, within)

    long : length new ≡ end - start
    long = ap length is ∙ length-replicate {A = ℕ} (end - start) 0

    outside : end ≤ i → (offset + i) / 64 ≡ line → ⊥
    outside past e =
        elim whole [
          | inl far ↦ omega (arith, e, past, far)
          | inr all ↦ omega (arith, below, past, all)
        ]

-- a line that is taken into the set, once its bytes are zeros
pub masked-opened : (before after : LineSet) (page new : List ℕ) (line k : ℕ) → length page ≡ 4096 → line < 64
    → is_marked before line ≡ false → is_marked after line ≡ true
    → ((other : ℕ) → other ≢ line → is_marked after other ≡ is_marked before other)
    → new ≡ replicate k 0 → k ≡ 64
    → masked after (take (line * 64) page ++ (new ++ drop k (drop (line * 64) page))) ≡ masked before page
masked-opened before after page new line k long there unmarked marked others zeros is =
    sym (masked-is after placed (masked before page) (length-masked before page) (λ i below. at-masked before page i below ∙ each i below))
  where
    placed : List ℕ
    placed = take (line * 64) page ++ (new ++ drop k (drop (line * 64) page))

    fits : line * 64 ≤ length page
    fits = omega (arith, long, there)

    size : length new ≡ k
    size = ap length zeros ∙ length-replicate {A = ℕ} k 0

    elsewhere : (i : ℕ) → i / 64 ≢ line → get_or placed i 0 ≡ get_or page i 0
    elsewhere i apart =
        elim (cases_lt i (line * 64)) [
          | inl less ↦ at-before page new (line * 64) k fits size i less
          | inr on ↦
              elim (cases_lt i (line * 64 + k)) [
                | inl inside ↦ absurd (apart (omega (arith, on, inside, is)))
                | inr past ↦ at-past page new (line * 64) k fits size i past
              ]
        ]

    each : (i : ℕ) → i < 4096 → masked_byte before page i ≡ masked_byte after placed i
    each i below =
        elim (cases_eq (i / 64) line) [
          | inl same ↦
              ap (λ l. cond (is_marked before l) (get_or page i 0) 0) same
              ∙ ap (λ b. cond b (get_or page i 0) 0) unmarked
              ∙ sym (ap (λ l. cond (is_marked after l) (get_or placed i 0) 0) same
              ∙ ap (λ b. cond b (get_or placed i 0) 0) marked
              ∙ at-within page new (line * 64) k fits size i (omega (arith, same)) (omega (arith, same, is))
              ∙ ap (λ ys. get_or ys (i - line * 64) 0) zeros
              ∙ get_or-replicate k (i - line * 64) 0 0 (omega (arith, same, is)))
          | inr apart ↦
              ap (λ b. cond b (get_or page i 0) 0) (sym (others (i / 64) apart))
              ∙ ap (λ y. cond (is_marked after (i / 64)) y 0) (sym (elsewhere i apart))
        ]

-- a byte that is written to a line of the set
pub masked-set : (lines : LineSet) (page : List ℕ) (at byte : ℕ) → length page ≡ 4096 → at < 4096 → is_marked lines (at / 64) ≡ true
    → masked lines (set page at byte) ≡ set (masked lines page) at byte
masked-set lines page at byte long there marked =
    sym (masked-is lines (set page at byte) (set (masked lines page) at byte) (length-set (masked lines page) at byte ∙ length-masked lines page) each)
  where
    each : (i : ℕ) → i < 4096 → get_or (set (masked lines page) at byte) i 0 ≡ masked_byte lines (set page at byte) i
    each i below =
        elim (cases_eq i at) [
          | inl same ↦
              rw (same, marked, get_or-set_same page at byte 0 (omega (arith, long, there)))
              (get_or-set_same (masked lines page) at byte 0 (omega (arith, there, length-masked lines page)))
          | inr apart ↦
              get_or-set_other (masked lines page) at i byte 0 apart ∙ at-masked lines page i below
              ∙ ap (λ y. cond (is_marked lines (i / 64)) y 0) (sym (get_or-set_other page at i byte 0 apart))
        ]

-- bytes that are written to lines of the set
pub masked-overwritten : (lines : LineSet) (page new : List ℕ) (o k n : ℕ) → length page ≡ 4096 → length new ≡ k → o + k ≤ 4096 → o + k ≤ n * 64
    → ((line : ℕ) → o / 64 ≤ line → line < n → is_marked lines line ≡ true)
    → masked lines (take o page ++ (new ++ drop k (drop o page))) ≡ overwritten (masked lines page) o new
masked-overwritten lines page new o k n long same_size within wide marked =
    sym (masked-is lines placed written size each) ∙ written-is
  where
    placed : List ℕ
    placed = take o page ++ (new ++ drop k (drop o page))

    written : List ℕ
    written = take o (masked lines page) ++ (new ++ drop k (drop o (masked lines page)))

    written-is : written ≡ overwritten (masked lines page) o new
    written-is =
        let tail : drop k (drop o (masked lines page)) ≡ drop (o + length new) (masked lines page) = drop-drop k o (masked lines page) ∙ ap (λ j. drop (o + j) (masked lines page)) (sym same_size) in
        ap (λ ys. take o (masked lines page) ++ (new ++ ys)) tail
        ∙ sym (append_assoc (take o (masked lines page)) new (drop (o + length new) (masked lines page)))

    fits : o ≤ length page
    fits = omega (arith, long, within)

    wide_fits : o ≤ length (masked lines page)
    wide_fits = omega (arith, length-masked lines page, within)

    size : length written ≡ 4096
    size = length-placed (masked lines page) new o k wide_fits same_size (omega (arith, length-masked lines page, within)) ∙ length-masked lines page

    outside : (i : ℕ) → i < 4096 → get_or written i 0 ≡ get_or (masked lines page) i 0 → get_or placed i 0 ≡ get_or page i 0 → get_or written i 0 ≡ masked_byte lines placed i
    outside i below kept same = kept ∙ at-masked lines page i below ∙ ap (λ y. cond (is_marked lines (i / 64)) y 0) (sym same)

    inside : (i : ℕ) → o ≤ i → i < o + k → get_or written i 0 ≡ masked_byte lines placed i
    inside i on less =
        at-within (masked lines page) new o k wide_fits same_size i on less
        ∙ sym (ap (λ b. cond b (get_or placed i 0) 0) (marked (i / 64) (omega (arith, on)) (omega (arith, less, wide)))
        ∙ at-within page new o k fits same_size i on less)

    each : (i : ℕ) → i < 4096 → get_or written i 0 ≡ masked_byte lines placed i
    each i below =
        elim (cases_lt i o) [
          | inl before ↦ outside i below (at-before (masked lines page) new o k wide_fits same_size i before) (at-before page new o k fits same_size i before)
          | inr on ↦
              elim (cases_lt i (o + k)) [
                | inl less ↦ inside i on less
                | inr past ↦ outside i below (at-past (masked lines page) new o k wide_fits same_size i past) (at-past page new o k fits same_size i past)
              ]
        ]

-- bytes of a page, from `offset` on, of which those outside the lines were made zeros
pub masked-range : (lines : LineSet) (page bytes after : List ℕ) (offset size : ℕ) → length page ≡ 4096 → offset + size ≤ 4096
    → bytes ≡ slice_range page offset (offset + size) → length after ≡ size
    → ((i : ℕ) → i < size → get_or after i 0 ≡ cond (is_marked lines ((offset + i) / 64)) (get_or bytes i 0) 0)
    → after ≡ slice_range (masked lines page) offset (offset + size)
masked-range lines page bytes after offset size long within is count each =
    ext_get_or 0 after (slice_range (masked lines page) offset (offset + size)) (count ∙ sym (length-range (masked lines page) (length-masked lines page)))
    (λ i inside. let below : i < size = omega (arith, inside, count) in
    each i below
    ∙ ap (λ ys. cond (is_marked lines ((offset + i) / 64)) (get_or ys i 0) 0) is
    ∙ ap (λ y. cond (is_marked lines ((offset + i) / 64)) y 0) (at-range page i below)
    ∙ sym (at-range (masked lines page) i below ∙ at-masked lines page (offset + i) (omega (arith, below, within))))
  where
    length-range : (xs : List ℕ) → length xs ≡ 4096 → length (slice_range xs offset (offset + size)) ≡ size
    length-range xs is_page = length-take-le (offset + size - offset) (drop offset xs) (omega (arith, is_page, within, length-drop offset xs)) ∙ omega arith

    at-range : (xs : List ℕ) (i : ℕ) → i < size → get_or (slice_range xs offset (offset + size)) i 0 ≡ get_or xs (offset + i) 0
    at-range xs i below = get_or-take (offset + size - offset) (drop offset xs) i 0 (omega (arith, below)) ∙ get_or-drop offset xs i 0
