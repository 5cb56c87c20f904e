-- The blocks of a host log, line by line.
use Rattle.std.proofs.Common.{◌≡◌, ◌∙◌, ℕ, suc, ◌+◌, ◌-◌, ◌<◌, ◌≤◌, inl, inr, position, Some, None, Bool, true, false, not, cond, List, [], ◌∷◌, ◌++◌, length, take, drop, get_or, codes, append_assoc, refl, sym, ap, subst, arith}
use Rattle.std.proofs.Math.Seq.{take-add, take-append_seam, take-suc}
use Rattle.std.proofs.lemmas.Bool.{cases_lt, cond-false, cond-true, eqb-true, le-ltb, ne_eqb, eq-eqb}
use Rattle.std.proofs.lemmas.List.{append-nil, drop-append-le, drop-drop, length-append, length-drop, length-take-le, take-append-drop, take-append-le, take_rest}
use Rattle.std.proofs.lemmas.List.Folds.{prefix_len-append}
use Rattle.std.proofs.lemmas.List.Quantifiers.{position-Some}
use Rattle.std.proofs.lemmas.List.Sums.{prefix_len-le-length}
use Rattle.std.proofs.lemmas.Slice.Eq.{bytes_eq-Decides}
use Rattle.std.specs.List.{position_or_len}
use Rattle.vm_samples.specs.Blocks.{blocks_from, blocks_of, is_mark}
use Rattle.vm_samples.specs.Lines.{is_line_end, lines_of}
use Rattle.vm_samples.specs.LogSteps.{HasNoEnd, blocks_at, blocks_behind, first_or_all, IsMarked, IsTooLong}
use Rattle.vm_samples.proofs.LineLemmas.{first_line, lines-none, no_line, position_is, position_none, position_some}

-- ---- a line that ends within the bytes

place_there : (xs ys : List ℕ) (i : ℕ) → position is_line_end xs ≡ Some i → position is_line_end (xs ++ ys) ≡ Some i
place_there xs ys i found =
    let at = position_some is_line_end xs i found in
    let inside : position_or_len is_line_end xs < length xs = omega (arith, at.0, at.1) in
    let there : position_or_len is_line_end (xs ++ ys) ≡ position_or_len is_line_end xs =
    prefix_len-append (λ x. not (is_line_end x)) xs ys ∙ cond-false _ _ _ (ne_eqb (position_or_len is_line_end xs) (length xs) (λ same. absurd (omega arith))) in
    position_is is_line_end (xs ++ ys) i (there ∙ at.0) (omega (arith, at.1, length-append xs ys))

place_beyond : (xs ys : List ℕ) → position is_line_end xs ≡ None → position_or_len is_line_end (xs ++ ys) ≡ length xs + position_or_len is_line_end ys
place_beyond xs ys none =
    let whole = position_none is_line_end xs none in
    prefix_len-append (λ x. not (is_line_end x)) xs ys ∙ cond-true _ _ _ (eq-eqb (position_or_len is_line_end xs) (length xs) whole)

-- ---- a line of which a front was looked at already

parted : (bytes : List ℕ) (place known : ℕ) → place ≤ known → take (known - place) (drop place bytes) ++ drop known bytes ≡ drop place bytes
parted bytes place known ordered =
    let sum : place + (known - place) ≡ known = omega arith in
    ap (λ l. take (known - place) (drop place bytes) ++ l) (ap (λ (n : ℕ). drop n bytes) (sym sum) ∙ sym (drop-drop (known - place) place bytes))
    ∙ take-append-drop (known - place) (drop place bytes)

part_length : (bytes : List ℕ) (place known : ℕ) → place ≤ known → known ≤ length bytes → length (take (known - place) (drop place bytes)) ≡ known - place
part_length bytes place known ordered within = length-take-le (known - place) (drop place bytes) (omega (arith, length-drop place bytes))

pub known_end : (bytes : List ℕ) (place known len : ℕ) → place ≤ known → known ≤ length bytes → HasNoEnd bytes place known
    → position is_line_end (take (length bytes - known) (drop known bytes)) ≡ Some len → position is_line_end (drop place bytes) ≡ Some (known + len - place)
known_end bytes place known len ordered within none found =
    let front = take (known - place) (drop place bytes) in
    let rest = drop known bytes in
    let at = position_some is_line_end rest len (ap (position is_line_end) (sym (take_rest bytes known)) ∙ found) in
    let size = part_length bytes place known ordered within in
    let whole = parted bytes place known ordered in
    let first : position_or_len is_line_end (drop place bytes) ≡ known + len - place =
    ap (position_or_len is_line_end) (sym whole) ∙ place_beyond front rest none ∙ (let a = at.0 in omega arith) in
    position_is is_line_end (drop place bytes) (known + len - place) first
    (let a = at.1 in omega (arith, length-drop known bytes, length-drop place bytes))

pub known_none : (bytes : List ℕ) (place known : ℕ) → place ≤ known → known ≤ length bytes → HasNoEnd bytes place known
    → position is_line_end (take (length bytes - known) (drop known bytes)) ≡ None → position is_line_end (drop place bytes) ≡ None
known_none bytes place known ordered within none behind =
    let front = take (known - place) (drop place bytes) in
    let rest = drop known bytes in
    let past = position_none is_line_end rest (ap (position is_line_end) (sym (take_rest bytes known)) ∙ behind) in
    let whole = parted bytes place known ordered in
    let all : position_or_len is_line_end (drop place bytes) ≡ length (drop place bytes) =
    ap (position_or_len is_line_end) (sym whole) ∙ place_beyond front rest none
    ∙ (let sum = length-append front rest in let same = ap length whole in omega arith) in
    cond-false _ _ _ (le-ltb (position_or_len is_line_end (drop place bytes)) (length (drop place bytes)) (omega arith))

-- nothing was looked at
pub nothing_known : (bytes : List ℕ) (place : ℕ) → HasNoEnd bytes place place
nothing_known bytes place = let none : place - place ≡ 0 = omega arith in ap (λ (n : ℕ). position is_line_end (take n (drop place bytes))) none

-- all was looked at, and then there is more
pub known_before : (old got new : List ℕ) (place known : ℕ) → new ≡ old ++ got → place ≤ length old → known ≡ length old
    → position is_line_end (drop place old) ≡ None → HasNoEnd new place known
known_before old got new place known is within all none =
    let size : length (drop place old) ≡ known - place = omega (arith, length-drop place old) in
    let front : take (known - place) (drop place new) ≡ drop place old =
    ap (λ l. take (known - place) (drop place l)) is
    ∙ ap (take (known - place)) (drop-append-le place old got within)
    ∙ ap (λ (n : ℕ). take n (drop place old ++ got)) (sym size)
    ∙ take-append_seam (drop place old) got in
    ap (position is_line_end) front ∙ none

-- ---- a line, and the lines behind it

line_at : (bytes : List ℕ) (place len : ℕ) (more : List ℕ) → position is_line_end (drop place bytes) ≡ Some len
    → lines_of (drop place bytes ++ more) ≡ take len (drop place bytes) ∷ lines_of (drop (place + (len + 1)) bytes ++ more)
line_at bytes place len more found =
    let text = drop place bytes in
    let inside : len < length text = (position_some is_line_end text len found).1 in
    let front : take len (text ++ more) ≡ take len text = take-append-le len text more (omega arith) in
    let behind : drop (len + 1) (text ++ more) ≡ drop (place + (len + 1)) bytes ++ more =
    drop-append-le (len + 1) text more (omega arith) ∙ ap (λ l. l ++ more) (drop-drop (len + 1) place bytes) in
    first_line (text ++ more) len (place_there text more len found)
    ∙ ap (λ l. l ∷ lines_of (drop (len + 1) (text ++ more))) front
    ∙ ap (λ l. take len text ∷ lines_of l) behind

-- the line and its end, behind what is in front of them
with_line : (bytes : List ℕ) (place len : ℕ) → position is_line_end (drop place bytes) ≡ Some len
    → take place bytes ++ (take len (drop place bytes) ++ 10 ∷ []) ≡ take (place + (len + 1)) bytes
with_line bytes place len found =
    let text = drop place bytes in
    let at = position-Some is_line_end text len 0 found in
    let end : get_or text len 0 ≡ 10 = eqb-true (get_or text len 0) 10 at.1 in
    let more : len + 1 ≡ suc len = omega arith in
    let line : take (len + 1) text ≡ take len text ++ 10 ∷ [] =
    ap (λ (n : ℕ). take n text) more ∙ take-suc text len 0 at.0 ∙ ap (λ (b : ℕ). take len text ++ b ∷ []) end in
    sym (take-add place (len + 1) bytes ∙ ap (λ l. take place bytes ++ l) line)

within_line : (bytes : List ℕ) (place len : ℕ) → position is_line_end (drop place bytes) ≡ Some len → place + (len + 1) ≤ length bytes
within_line bytes place len found =
    let inside : len < length (drop place bytes) = (position_some is_line_end (drop place bytes) len found).1 in
    omega (arith, length-drop place bytes)

-- ---- a line that is no mark, and one that is

pub passed_line : (bytes : List ℕ) (place len : ℕ) (more : List ℕ) → position is_line_end (drop place bytes) ≡ Some len
    → is_mark (take len (drop place bytes)) ≡ false → blocks_at bytes place more ≡ blocks_at bytes (place + (len + 1)) more
passed_line bytes place len more found other =
    let rest = lines_of (drop (place + (len + 1)) bytes ++ more) in
    ap (blocks_from (take place bytes)) (line_at bytes place len more found)
    ∙ cond-false (is_mark (take len (drop place bytes))) _ _ other
    ∙ ap (λ l. blocks_from l rest) (with_line bytes place len found)

pub passed_within : (bytes : List ℕ) (place len : ℕ) → position is_line_end (drop place bytes) ≡ Some len → place + (len + 1) ≤ length bytes
passed_within bytes place len found = within_line bytes place len found

marked_length : (bytes : List ℕ) (place len : ℕ) → position is_line_end (drop place bytes) ≡ Some len → is_mark (take len (drop place bytes)) ≡ true → len ≡ 3
marked_length bytes place len found is =
    let text = drop place bytes in
    let inside : len < length text = (position_some is_line_end text len found).1 in
    let same : take len text ≡ codes "---" = (bytes_eq-Decides (take len text) (codes "---")).0 is in
    sym (length-take-le len text (omega arith)) ∙ ap length same

pub marked_line : (bytes : List ℕ) (from place len : ℕ) → from ≤ place → position is_line_end (drop place bytes) ≡ Some len
    → is_mark (take len (drop place bytes)) ≡ true
    → ((more : List ℕ) → blocks_at bytes from more ≡ blocks_at bytes place more) → IsMarked bytes from place
marked_line bytes from place len low found is before =
    let text = drop place bytes in
    let three = marked_length bytes place len found is in
    let same : take len text ≡ codes "---" = (bytes_eq-Decides (take len text) (codes "---")).0 is in
    let four : len + 1 ≡ 4 = omega arith in
    let inside = within_line bytes place len found in
    let line : take (len + 1) text ≡ codes "---\n" =
    (let at = position-Some is_line_end text len 0 found in
    let end : get_or text len 0 ≡ 10 = eqb-true (get_or text len 0) 10 at.1 in
    let more : len + 1 ≡ suc len = omega arith in
    ap (λ (n : ℕ). take n text) more ∙ take-suc text len 0 at.0 ∙ ap (λ (b : ℕ). take len text ++ b ∷ []) end ∙ ap (λ l. l ++ 10 ∷ []) same) in
    record {
      low = low;
      high = omega arith;
      mark = sym (take-append-drop (len + 1) text) ∙ ap (λ l. l ++ drop (len + 1) text) line
          ∙ ap (λ l. codes "---\n" ++ l) (drop-drop (len + 1) place bytes ∙ ap (λ (n : ℕ). drop (place + n) bytes) four);
      blocks = λ more.
          before more
          ∙ ap (blocks_from (take place bytes)) (line_at bytes place len more found)
          ∙ cond-true (is_mark (take len text)) _ _ is
          ∙ ap (λ (n : ℕ). take place bytes ∷ blocks_of (drop (place + n) bytes ++ more)) four;
    }

-- ---- more bytes

pub grown : (bytes got more : List ℕ) (place : ℕ) → place ≤ length bytes → blocks_at bytes place (got ++ more) ≡ blocks_at (bytes ++ got) place more
grown bytes got more place within =
    let behind : drop place bytes ++ (got ++ more) ≡ drop place (bytes ++ got) ++ more =
    sym (append_assoc (drop place bytes) got more) ∙ ap (λ l. l ++ more) (sym (drop-append-le place bytes got within)) in
    ap (λ l. blocks_from (take place bytes) (lines_of l)) behind
    ∙ ap (λ l. blocks_from l (lines_of (drop place (bytes ++ got) ++ more))) (sym (take-append-le place bytes got within))

pub from_beginning : (bytes more : List ℕ) → blocks_of (bytes ++ more) ≡ blocks_at bytes 0 more
from_beginning bytes more = refl

-- ---- no line `---`

pub no_blocks : (bytes : List ℕ) (place : ℕ) → position is_line_end (drop place bytes) ≡ None
    → ((more : List ℕ) → blocks_of (bytes ++ more) ≡ blocks_at bytes place more) → blocks_of bytes ≡ []
no_blocks bytes place none blocks =
    ap blocks_of (sym (append-nil bytes)) ∙ blocks []
    ∙ ap (λ l. blocks_from (take place bytes) (lines_of l)) (append-nil (drop place bytes))
    ∙ ap (blocks_from (take place bytes)) (no_line (drop place bytes) none)

-- ---- too many bytes

long_step : (n : ℕ) (mark : Bool) (before line : List ℕ) (lines : List (List ℕ)) (bytes : List ℕ) → n ≤ length before
    → n ≤ length (first_or_all (blocks_from (before ++ (line ++ 10 ∷ [])) lines) bytes)
    → n ≤ length (first_or_all (cond mark (before ∷ blocks_from [] lines) (blocks_from (before ++ (line ++ 10 ∷ [])) lines)) bytes)
long_step n true before line lines bytes many rest = many
long_step n false before line lines bytes many rest = rest

-- a block that has so many bytes already has no fewer
long_front : (n : ℕ) (before : List ℕ) (lines : List (List ℕ)) (bytes : List ℕ) → n ≤ length before → n ≤ length bytes
    → n ≤ length (first_or_all (blocks_from before lines) bytes)
long_front n before [] bytes many all = all
long_front n before (line ∷ lines) bytes many all =
    long_step n (is_mark line) before line lines bytes many
    (long_front n (before ++ (line ++ 10 ∷ [])) lines bytes (omega (arith, length-append before (line ++ 10 ∷ []))) all)

-- the same where only a first line begins: a mark has three bytes
long_first : (n : ℕ) (before begun : List ℕ) (lines : List (List ℕ)) (bytes : List ℕ)
    → n + 3 ≤ length before + length begun → n ≤ length bytes
    → ((line : List ℕ) (rest : List (List ℕ)) → lines ≡ line ∷ rest → length begun ≤ length line)
    → n ≤ length (first_or_all (blocks_from before lines) bytes)
long_first n before begun [] bytes many all first = all
long_first n before begun (line ∷ lines) bytes many all first =
    let longer = first line lines refl in
    chosen (is_mark line) refl longer
  where
    chosen : (b : Bool) → is_mark line ≡ b → length begun ≤ length line
        → n ≤ length (first_or_all (cond b (before ∷ blocks_from [] lines) (blocks_from (before ++ (line ++ 10 ∷ [])) lines)) bytes)
    chosen true is longer =
        let same : line ≡ codes "---" = (bytes_eq-Decides line (codes "---")).0 is in
        let three : length line ≡ 3 = ap length same in
        omega arith
    chosen false is longer =
        long_front n (before ++ (line ++ 10 ∷ [])) lines bytes
        (omega (arith, length-append before (line ++ 10 ∷ []), length-append line (10 ∷ []))) all

-- the first line of bytes in which none ends goes on behind them
begun_line : (begun more : List ℕ) → position is_line_end begun ≡ None
    → (line : List ℕ) (rest : List (List ℕ)) → lines_of (begun ++ more) ≡ line ∷ rest → length begun ≤ length line
begun_line begun more none line rest are =
    elim (cases_lt (position_or_len is_line_end (begun ++ more)) (length (begun ++ more))) [
      | inl inside ↦
          (let place = position_or_len is_line_end (begun ++ more) in
          let lines = first_line (begun ++ more) place (position_is is_line_end (begun ++ more) place refl inside) in
          let heads : take place (begun ++ more) ∷ lines_of (drop (place + 1) (begun ++ more)) ≡ line ∷ rest = sym lines ∙ are in
          let head : take place (begun ++ more) ≡ line = cc in
          let size : length (take place (begun ++ more)) ≡ place = length-take-le place (begun ++ more) (omega arith) in
          omega (arith, size, ap length head, place_beyond begun more none))
      | inr whole ↦
          (let all : position_or_len is_line_end (begun ++ more) ≡ length (begun ++ more) = omega (arith, prefix_len-le-length (λ x. not (is_line_end x)) (begun ++ more)) in
          let nothing : [] ≡ line ∷ rest = sym (lines-none (begun ++ more) all) ∙ are in
          absurd (cc))
    ]

-- with four bytes more than a block may have, and no line `---` in them, a block is too long
pub too_many : (bytes : List ℕ) (place : ℕ) (more : List ℕ) → place ≤ length bytes → position is_line_end (drop place bytes) ≡ None
    → blocks_of (bytes ++ more) ≡ blocks_at bytes place more → 16777220 ≤ length bytes → IsTooLong (bytes ++ more)
too_many bytes place more within none blocks many =
    let front : length (take place bytes) ≡ place = length-take-le place bytes within in
    subst (λ (bs : List (List ℕ)). 16777217 ≤ length (first_or_all bs (bytes ++ more))) (sym blocks)
    (long_first 16777217 (take place bytes) (drop place bytes) (lines_of (drop place bytes ++ more)) (bytes ++ more)
    (omega (arith, length-drop place bytes)) (omega (arith, length-append bytes more)) (begun_line (drop place bytes) more none))

-- the block that is found is too long
pub long_block : (bytes : List ℕ) (place : ℕ) (more : List ℕ) → place ≤ length bytes → blocks_of (bytes ++ more) ≡ blocks_behind bytes place more
    → 16777216 < place → IsTooLong (bytes ++ more)
long_block bytes place more within blocks long =
    subst (λ (bs : List (List ℕ)). 16777216 < length (first_or_all bs (bytes ++ more))) (sym blocks)
    (omega (arith, length-take-le place bytes within))

-- all bytes are too many, and have no block
pub long_all : (bytes : List ℕ) → blocks_of bytes ≡ [] → 16777216 < length bytes → IsTooLong bytes
long_all bytes none long = subst (λ (bs : List (List ℕ)). 16777216 < length (first_or_all bs bytes)) (sym none) long
