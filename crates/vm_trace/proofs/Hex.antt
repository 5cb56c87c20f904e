-- The bytes that pairs of hexadecimal digits spell, one by one.
use Rattle.std.proofs.Common.{◌≡◌, ◌∙◌, map, ℕ, zero, suc, ◌+◌, ◌-◌, ◌*◌, ◌%◌, ◌<◌, Bool, true, false, nat_lt, ◌&&◌, if◌then◌else◌, Some, None, List, [], ◌∷◌, ◌++◌, length, get_or, take, refl, ap, arith}
use Rattle.std.proofs.lemmas.Bool.{and_parts, eqb-true}
use Rattle.std.proofs.lemmas.List.FromFn.{get_or-map-range_with_len}
use Rattle.std.specs.Char.{digit_value}
use Rattle.std.specs.List.{range_with_len}
use Rattle.vm_trace.specs.declared.bytes.TheConstants.{DIGIT_VALUES}
use Rattle.vm_trace.specs.Words.{hex_pairs, is_hex, pair_of}

-- the byte of the two digits from place k on
abbrev byte_at : List ℕ → ℕ → ℕ
byte_at ds k = 16 * digit_value (get_or ds k 0) + digit_value (get_or ds (suc k) 0)

pairs_from : (i k : ℕ) (ds : List ℕ) → k ≡ 2 * i → suc k < length ds → hex_pairs (take (suc (suc k)) ds) ≡ hex_pairs (take k ds) ++ byte_at ds k ∷ []
pairs_from i k [] e h = absurd (omega arith)
pairs_from i k (a ∷ []) e h = absurd (omega arith)
pairs_from i zero (a ∷ b ∷ ds) e h = refl
pairs_from i (suc zero) (a ∷ b ∷ ds) e h = absurd (omega arith)
pairs_from i (suc (suc k)) (a ∷ b ∷ ds) e h = ap (λ l. (16 * digit_value a + digit_value b) ∷ l) (pairs_from (i - 1) k ds (omega arith) (omega arith))

-- one byte more
pub pairs_more : (i : ℕ) (ds : List ℕ) → 2 * i + 1 < length ds → hex_pairs (take (2 * (i + 1)) ds) ≡ hex_pairs (take (2 * i) ds) ++ (16 * digit_value (get_or ds (2 * i) 0) + digit_value (get_or ds (2 * i + 1) 0)) ∷ []
pairs_more i ds h =
    let two : 2 * (i + 1) ≡ suc (suc (2 * i)) = omega arith in
    let one : 2 * i + 1 ≡ suc (2 * i) = omega arith in
    rw (two, one) (pairs_from i (2 * i) ds refl (omega arith))

taken : (b : Bool) (x y : ℕ) → (if b then Some x else None) ≡ Some y → (b ≡ true) × (y ≡ x)
taken true x y h = (refl, (let z = h in cc))
taken false x y h = cc

-- two digits that spell a byte are hexadecimal, and their values make it
pub pair_from : (high low byte : ℕ) → pair_of high low ≡ Some byte
    → (nat_lt (digit_value high) 16 ≡ true) × (nat_lt (digit_value low) 16 ≡ true) × (byte ≡ 16 * digit_value high + digit_value low)
pair_from high low byte h =
    let test = taken (nat_lt (digit_value high) 16 && nat_lt (digit_value low) 16) _ byte h in
    let both = and_parts _ _ test.0 in
    (both.0, both.1, test.1)

-- there is a byte for each two digits
pub length-hex_pairs : (ds : List ℕ) → 2 * length (hex_pairs ds) + length ds % 2 ≡ length ds
length-hex_pairs [] = refl
length-hex_pairs (a ∷ []) = refl
length-hex_pairs (a ∷ b ∷ ds) = omega (arith, length-hex_pairs ds)

pub even_from_hex : (word : List ℕ) → is_hex word ≡ true → length word % 2 ≡ 0
even_from_hex word is = eqb-true _ _ (and_parts _ _ is).0

values_of_bytes : DIGIT_VALUES ≡ map digit_value (range_with_len 0 256)
values_of_bytes = refl

-- the table has the value of each byte
pub value_in_table : (byte : ℕ) → byte < 256 → get_or DIGIT_VALUES byte 0 ≡ digit_value byte
value_in_table byte small =
    ap (λ values. get_or values byte 0) values_of_bytes ∙ get_or-map-range_with_len digit_value 0 256 byte byte 0 small (omega arith)
