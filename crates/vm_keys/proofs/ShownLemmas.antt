-- A text with its escapes, written piece by piece.
use Rattle.std.proofs.Common.{◌≡◌, ℕ, ◌+◌, ◌-◌, ◌<◌, ◌≤◌, true, false, List, [], ◌∷◌, ◌++◌, length, get_or, take, drop, length-drop, get_or-drop, append_assoc, append-nil, take_all, refl, ap, arith}
use Rattle.std.specs.Prelude.{◌==◌}
use Rattle.std.proofs.lemmas.Bool.Decides.{nat_tests}
use Rattle.std.proofs.lemmas.List.{drop_more, take_more, drop_all}
use Rattle.json.specs.Print.{escape, escape_byte}
use Rattle.vm_keys.specs.Shown.{by_number, is_escaped}

-- only ASCII bytes have one
pub escaped_ascii : (byte : ℕ) → is_escaped byte ≡ true → byte < 128
escaped_ascii byte is = grind (arith, nat_tests)

-- a byte without one stands for itself
pub stands : (byte : ℕ) → is_escaped byte ≡ false → escape_byte byte ≡ byte ∷ []
unfolding escape_byte
stands byte plain = grind (arith, nat_tests)

-- an escape by its number, where there is no shorter one
pub numbered : (byte : ℕ) → is_escaped byte ≡ true → (byte == 34) ≡ false → (byte == 92) ≡ false → (byte == 8) ≡ false → (byte == 12) ≡ false
    → (byte == 10) ≡ false → (byte == 13) ≡ false → (byte == 9) ≡ false → escape_byte byte ≡ by_number byte
unfolding escape_byte
numbered byte is a b c d e f g = grind (arith, nat_tests)

past_start : (a b : ℕ) → a ≤ b → a + (b - a) ≡ b
past_start a b low = omega arith

-- the escape at a place, and what follows
escape-drop : (s : List ℕ) (i : ℕ) → i < length s → escape (drop i s) ≡ escape_byte (get_or s i 0) ++ escape (drop (i + 1) s)
escape-drop s i within = ap escape (drop_more s i 0 within)

pub kept : (s done total : List ℕ) (start i : ℕ) → start ≤ i → i < length s → is_escaped (get_or s i 0) ≡ false
    → done ++ (take (i - start) (drop start s) ++ escape (drop i s)) ≡ total
    → done ++ (take (i + 1 - start) (drop start s) ++ escape (drop (i + 1) s)) ≡ total
kept s done total start i low within plain whole =
    let at : get_or (drop start s) (i - start) 0 ≡ get_or s i 0 = rw (get_or-drop start s (i - start) 0, past_start start i low) in
    let more = take_more (drop start s) (i - start) 0 (omega (arith, length-drop start s)) in
    let next : i + 1 - start ≡ i - start + 1 = omega arith in
    rw (next, more, at) (simp append_assoc (rw (escape-drop s i within, stands (get_or s i 0) plain) at whole))

pub replaced : (s done total : List ℕ) (start i : ℕ) → i < length s
    → done ++ (take (i - start) (drop start s) ++ escape (drop i s)) ≡ total
    → (done ++ (take (i - start) (drop start s) ++ escape_byte (get_or s i 0))) ++ (take (i + 1 - (i + 1)) (drop (i + 1) s) ++ escape (drop (i + 1) s)) ≡ total
replaced s done total start i within whole =
    let zero : i + 1 - (i + 1) ≡ 0 = omega arith in
    rw zero (simp append_assoc (rw (escape-drop s i within) at whole))

pub ended : (s done total : List ℕ) (start i : ℕ) → start ≤ i → i ≡ length s
    → done ++ (take (i - start) (drop start s) ++ escape (drop i s)) ≡ total → done ++ drop start s ≡ total
ended s done total start i low end whole =
    let all : take (i - start) (drop start s) ≡ drop start s = take_all _ _ (omega (arith, length-drop start s)) in
    let none : drop i s ≡ [] = drop_all i s (omega arith) in
    rw (all, none, append-nil) at whole

-- ---- the shorter escapes

pub quote : (byte : ℕ) → byte ≡ 34 → escape_byte byte ≡ 92 ∷ 34 ∷ []
unfolding escape_byte
quote byte is = rw is refl

pub backslash : (byte : ℕ) → byte ≡ 92 → escape_byte byte ≡ 92 ∷ 92 ∷ []
unfolding escape_byte
backslash byte is = rw is refl

pub backspace : (byte : ℕ) → byte ≡ 8 → escape_byte byte ≡ 92 ∷ 98 ∷ []
unfolding escape_byte
backspace byte is = rw is refl

pub form_feed : (byte : ℕ) → byte ≡ 12 → escape_byte byte ≡ 92 ∷ 102 ∷ []
unfolding escape_byte
form_feed byte is = rw is refl

pub line_feed : (byte : ℕ) → byte ≡ 10 → escape_byte byte ≡ 92 ∷ 110 ∷ []
unfolding escape_byte
line_feed byte is = rw is refl

pub carriage_return : (byte : ℕ) → byte ≡ 13 → escape_byte byte ≡ 92 ∷ 114 ∷ []
unfolding escape_byte
carriage_return byte is = rw is refl

pub tab : (byte : ℕ) → byte ≡ 9 → escape_byte byte ≡ 92 ∷ 116 ∷ []
unfolding escape_byte
tab byte is = rw is refl
