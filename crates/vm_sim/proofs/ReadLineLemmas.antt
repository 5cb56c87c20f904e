-- The table of two digits for each byte, and that the line of a read is ASCII behind its name.
use Rattle.std.proofs.Common.{◌≡◌, ℕ, zero, suc, ◌+◌, ◌*◌, ◌/◌, ◌%◌, ◌<◌, List, [], ◌∷◌, ◌++◌, get_or, arith, refl, Fits, w8, codes}
use Rattle.std.proofs.lemmas.Str.{IsAscii-append}
use Rattle.std.proofs.lemmas.Str.Ascii.{IsAscii-cons, IsAscii-nil}
use Rattle.std.specs.Str.{IsAscii}
use Rattle.vm_sim.specs.Lines.{hex, hex_digit}
use Rattle.vm_sim.specs.declared.read_line.TheConstants.{PAIRS}

-- the digits of n bytes, the first of them b
abbrev pairs_from : ℕ → ℕ → List ℕ
pairs_from b zero = []
pairs_from b (suc n) = hex_digit (b / 16) ∷ hex_digit (b % 16) ∷ pairs_from (b + 1) n

PAIRS_is : PAIRS ≡ pairs_from 0 256
PAIRS_is = refl

pairs_from_at : (b n p : ℕ) → p < n
    → (get_or (pairs_from b n) (p * 2) 0 ≡ hex_digit ((b + p) / 16)) × (get_or (pairs_from b n) (p * 2 + 1) 0 ≡ hex_digit ((b + p) % 16))
pairs_from_at b zero p h = absurd (omega arith)
pairs_from_at b (suc n) zero h = let e : b + 0 ≡ b = omega arith in rw e (refl, refl)
pairs_from_at b (suc n) (suc p) h =
    let e : b + suc p ≡ b + 1 + p = omega arith in
    let low : suc p * 2 + 1 ≡ suc (suc (p * 2 + 1)) = omega arith in
    let high : suc p * 2 ≡ suc (suc (p * 2)) = omega arith in
    rw (e, low, high) (pairs_from_at (b + 1) n p (omega arith))

-- the table has the digits of each byte at its place
pub PAIRS_at : (b : ℕ) → b < 256 → (get_or PAIRS (b * 2) 0 ≡ hex_digit (b / 16)) × (get_or PAIRS (b * 2 + 1) 0 ≡ hex_digit (b % 16))
PAIRS_at b h = let e : 0 + b ≡ b = omega arith in rw PAIRS_is (rw e at (pairs_from_at 0 256 b h))

small_digit : (d : ℕ) → d < 16 → hex_digit d < 128
small_digit d h = grind arith

-- digits are ASCII
pub IsAscii-hex : (bytes : List ℕ) → ((k : ℕ) → Fits w8 (get_or bytes k 0)) → IsAscii (hex bytes)
IsAscii-hex [] small = IsAscii-nil
IsAscii-hex (b ∷ rest) small =
    let here = (small 0).fits in
    IsAscii-cons (hex_digit (b / 16)) (hex_digit (b % 16) ∷ hex rest) (small_digit (b / 16) (omega arith))
    (IsAscii-cons (hex_digit (b % 16)) (hex rest) (small_digit (b % 16) (omega arith)) (IsAscii-hex rest (λ k. small (suc k))))

IsAscii-spaced : (front rest : List ℕ) → IsAscii front → IsAscii rest → IsAscii (front ++ (codes " " ++ rest))
IsAscii-spaced front rest f r = IsAscii-append front (codes " " ++ rest) f (IsAscii-cons 32 rest (omega arith) r)

-- what follows a name is ASCII, if the numbers and the digits are
pub IsAscii-behind_name : (page offset digits : List ℕ) → IsAscii page → IsAscii offset → IsAscii digits
    → IsAscii (codes " r " ++ (page ++ (codes " " ++ (offset ++ (codes " " ++ (digits ++ codes "\n"))))))
IsAscii-behind_name page offset digits p o d =
    let ended = IsAscii-append digits (codes "\n") d (IsAscii-cons 10 [] (omega arith) IsAscii-nil) in
    let place = IsAscii-spaced offset (digits ++ codes "\n") o ended in
    let numbers = IsAscii-spaced page (offset ++ (codes " " ++ (digits ++ codes "\n"))) p place in
    let letter = IsAscii-spaced (codes " r") (page ++ (codes " " ++ (offset ++ (codes " " ++ (digits ++ codes "\n"))))) in
    letter (IsAscii-cons 32 (codes "r") (omega arith) (IsAscii-cons 114 [] (omega arith) IsAscii-nil)) numbers
