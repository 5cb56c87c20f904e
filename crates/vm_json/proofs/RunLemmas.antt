-- A run of bytes that pass q, seen a vector at a time through the mask of those that pass p, its opposite.
use Rattle.std.proofs.Common.{◌≡◌, ℕ, ◌+◌, ◌*◌, ◌%◌, ◌^◌, ◌<◌, ◌≤◌, Bool, true, false, not, ◌||◌, cond, eqb, ltb, List, [], ◌∷◌, map, length, drop, replicate, refl, sym, ap, ap₂, ◌∙◌, arith}
use Rattle.std.proofs.lemmas.Bool.{eq-eqb, ne_eqb}
use Rattle.std.proofs.lemmas.List.{length-map}
use Rattle.std.proofs.lemmas.List.Folds.{prefix_len-append}
use Rattle.std.proofs.lemmas.List.Sums.{prefix_len-le-length}
use Rattle.std.proofs.lemmas.Simd.{chunk-drop, first_set_mask_l, length-chunk, map-map, mask_l-mod, zip2_of_maps, zip2_splat}
use Rattle.std.specs.List.{prefix_len}
use lib.Bits.{bit_and, bit_or}
use lib.Count.{count_trailing_zeros}
use lib.Lanes.{chunk, mask_l, top, zip2}
use Rattle.json.specs.Run.{is_stop}
use Rattle.vm_json.specs.Plain.{is_no_space}

-- a lane that a comparison passes has all bits set
abbrev lane : Bool → ℕ
lane b = cond b 255 0

any_of : (a b c : Bool) → top 7 (bit_or (bit_or (lane a) (lane b)) (lane c)) ≡ ((a || b) || c)
any_of true true true = refl
any_of true true false = refl
any_of true false true = refl
any_of true false false = refl
any_of false true true = refl
any_of false true false = refl
any_of false false true = refl
any_of false false false = refl

each_lane : (v : List ℕ) → map (λ x. top 7 (bit_or (bit_or (lane (eqb x 34)) (lane (eqb x 92))) (lane (ltb x 32)))) v ≡ map is_stop v
each_lane [] = refl
each_lane (x ∷ v) = ap₂ (λ b bs. b ∷ bs) (any_of (eqb x 34) (eqb x 92) (ltb x 32)) (each_lane v)

-- the mask of the three comparisons that the code makes
pub stops_mask : (v : List ℕ) → length v ≡ 16
    → mask_l (map (top 7) (zip2 bit_or (zip2 bit_or (zip2 (λ a b. lane (eqb a b)) v (replicate 16 34)) (zip2 (λ a b. lane (eqb a b)) v (replicate 16 92))) (zip2 (λ a b. lane (ltb a b)) v (replicate 16 32)))) % 2 ^ 64 ≡ mask_l (map is_stop v)
stops_mask v long =
    let quote = zip2_splat (λ a b. lane (eqb a b)) v 16 34 long in
    let backslash = zip2_splat (λ a b. lane (eqb a b)) v 16 92 long in
    let control = zip2_splat (λ a b. lane (ltb a b)) v 16 32 long in
    let all = zip2_of_maps bit_or (λ x. bit_or (lane (eqb x 34)) (lane (eqb x 92))) (λ x. lane (ltb x 32)) v (zip2_of_maps bit_or (λ x. lane (eqb x 34)) (λ x. lane (eqb x 92)) v quote backslash) control in
    ap (λ l. mask_l l % 2 ^ 64) (ap (map (top 7)) all ∙ map-map (top 7) _ v ∙ each_lane v) ∙ mask_l-mod (map is_stop v) 64 (omega (arith, length-map v is_stop, long))

-- a lane that an inequality passes
abbrev gap : Bool → ℕ
gap b = cond (not b) 255 0

either_gap : (a b : Bool) → bit_and (gap a) (gap b) ≡ gap (a || b)
either_gap true true = refl
either_gap true false = refl
either_gap false true = refl
either_gap false false = refl

top_gap : (b : Bool) → top 7 (gap b) ≡ not b
top_gap true = refl
top_gap false = refl

none_of : (a b c d : Bool) → top 7 (bit_and (bit_and (bit_and (gap a) (gap b)) (gap c)) (gap d)) ≡ not (((a || b) || c) || d)
none_of a b c d =
    let three = ap (λ n. bit_and n (gap c)) (either_gap a b) ∙ either_gap (a || b) c in
    ap (top 7) (ap (λ n. bit_and n (gap d)) three ∙ either_gap ((a || b) || c) d) ∙ top_gap (((a || b) || c) || d)

each_gap : (v : List ℕ) → map (λ x. top 7 (bit_and (bit_and (bit_and (gap (eqb x 32)) (gap (eqb x 9))) (gap (eqb x 10))) (gap (eqb x 13)))) v ≡ map is_no_space v
each_gap [] = refl
each_gap (x ∷ v) = ap₂ (λ b bs. b ∷ bs) (none_of (eqb x 32) (eqb x 9) (eqb x 10) (eqb x 13)) (each_gap v)

abbrev differs : ℕ → ℕ → ℕ
differs a b = gap (eqb a b)

-- the mask of the four inequalities that the code makes
pub others_mask : (v : List ℕ) → length v ≡ 16
    → mask_l (map (top 7) (zip2 bit_and (zip2 bit_and (zip2 bit_and (zip2 differs v (replicate 16 32)) (zip2 differs v (replicate 16 9))) (zip2 differs v (replicate 16 10))) (zip2 differs v (replicate 16 13)))) % 2 ^ 64 ≡ mask_l (map is_no_space v)
others_mask v long =
    let at : (c : ℕ) → zip2 differs v (replicate 16 c) ≡ map (λ x. differs x c) v = λ c. zip2_splat differs v 16 c long in
    let two = zip2_of_maps bit_and (λ x. differs x 32) (λ x. differs x 9) v (at 32) (at 9) in
    let three = zip2_of_maps bit_and (λ x. bit_and (differs x 32) (differs x 9)) (λ x. differs x 10) v two (at 10) in
    let all = zip2_of_maps bit_and (λ x. bit_and (bit_and (differs x 32) (differs x 9)) (differs x 10)) (λ x. differs x 13) v three (at 13) in
    ap (λ l. mask_l l % 2 ^ 64) (ap (map (top 7)) all ∙ map-map (top 7) _ v ∙ each_gap v) ∙ mask_l-mod (map is_no_space v) 64 (omega (arith, length-map v is_no_space, long))

none_at : (b : Bool) (n l m : ℕ) → n ≤ l → cond (not b) (1 + n) 0 ≡ 1 + l → (n ≡ l → m ≡ 0) → cond b 1 0 + 2 * m ≡ 0
none_at true n l m le e rest = absurd (omega arith)
none_at false n l m le e rest = let zero = rest (omega arith) in omega arith

module _ (p q : ℕ → Bool) (opposite : (x : ℕ) → q x ≡ not (p x)) where
  same_run : (xs : List ℕ) → prefix_len q xs ≡ prefix_len (λ x. not (p x)) xs
  same_run [] = refl
  same_run (x ∷ xs) = ap₂ (λ b n. cond b (1 + n) 0) (opposite x) (same_run xs)

  none_stops : (xs : List ℕ) → prefix_len (λ x. not (p x)) xs ≡ length xs → mask_l (map p xs) ≡ 0
  none_stops [] e = refl
  none_stops (x ∷ xs) e = none_at (p x) _ (length xs) _ (prefix_len-le-length (λ y. not (p y)) xs) (omega arith) (none_stops xs)

  in_window : (d : List ℕ) (i n : ℕ) → prefix_len q (drop i d) ≡ cond (eqb (prefix_len q (chunk i n d)) (length (chunk i n d))) (length (chunk i n d) + prefix_len q (drop (i + n) d)) (prefix_len q (chunk i n d))
  in_window d i n = ap (prefix_len q) (chunk-drop i n d) ∙ prefix_len-append q (chunk i n d) (drop (i + n) d)

  -- a window without a stop is passed as a whole
  pub passes_window : (d : List ℕ) (i n : ℕ) → i + n ≤ length d → n ≤ 64 → mask_l (map p (chunk i n d)) ≡ 0 → prefix_len q (drop i d) ≡ n + prefix_len q (drop (i + n) d)
  passes_window d i n room few none =
      let w = chunk i n d in
      let long = length-chunk i n d room in
      let all : prefix_len q w ≡ n = same_run w ∙ sym (first_set_mask_l p w n long few) ∙ ap (λ b. cond b n (count_trailing_zeros 64 (mask_l (map p w)))) (eq-eqb _ _ none) in
      in_window d i n ∙ ap (λ b. cond b (length w + prefix_len q (drop (i + n) d)) (prefix_len q w)) (eq-eqb _ _ (all ∙ sym long)) ∙ ap (λ k. k + prefix_len q (drop (i + n) d)) long

  -- in another the run ends at the first stop
  pub stops_in_window : (d : List ℕ) (i n : ℕ) → i + n ≤ length d → n ≤ 64 → 0 < mask_l (map p (chunk i n d)) → prefix_len q (drop i d) ≡ count_trailing_zeros 64 (mask_l (map p (chunk i n d)))
  stops_in_window d i n room few some =
      let w = chunk i n d in
      let long = length-chunk i n d room in
      let mask = mask_l (map p w) in
      in_window d i n
      ∙ ap (λ b. cond b (length w + prefix_len q (drop (i + n) d)) (prefix_len q w)) (ne_eqb _ _ (λ (e : prefix_len q w ≡ length w). omega (arith, none_stops w (sym (same_run w) ∙ e))))
      ∙ same_run w ∙ sym (first_set_mask_l p w n long few) ∙ ap (λ b. cond b n (count_trailing_zeros 64 mask)) (ne_eqb mask 0 (λ (e : mask ≡ 0). omega arith))
