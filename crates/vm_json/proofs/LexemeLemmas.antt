-- How the lexer reads what stands at the front of a text.
use Rattle.std.proofs.Common.{◌≡◌, ℕ, zero, suc, ◌+◌, ◌<◌, Bool, true, false, cond, ◌||◌, ◌==◌, List, [], ◌∷◌, length, take, drop, get_or, Some, None, refl, sym, subst, ap, ap₂, ◌∙◌, arith}
use Rattle.std.proofs.lemmas.Bool.{eqb-true, not-true, or_parts, true≢false}
use Rattle.std.proofs.lemmas.List.Sums.{prefix_len-le-length, prefix_len_passes}
use Rattle.std.proofs.lemmas.Str.{IsCharBoundary-after_ascii, IsCharBoundary-start}
use Rattle.std.specs.List.{prefix_len}
use Rattle.std.specs.Str.{IsCharBoundary, IsUtf8}
use Rattle.json.specs.Lex.{Lexeme, token, quote, backslash, operator, space, other, class, operator_lexeme, string_token, Mode, between, in_string, lex_byte, lex}
use Rattle.json.specs.Run.{is_plain, is_stop}
use Rattle.json.specs.Text.{content, plain, after_backslash, prepend}
use Rattle.json.specs.Token.{string, boolean, null, bad}
use Rattle.json.specs.Word.{is_operator, is_space, ends_word, word}
use Rattle.json.proofs.Printed.Numbers.{in_word-ended}

pub lex-nil : lex between [] ≡ []
unfolding lex
lex-nil = refl

is_this : (p : ℕ → Bool) (c x : ℕ) → p c ≡ false → p x ≡ true → (x == c) ≡ false
is_this p c x never h = go (x == c) refl
  where
    go : (b : Bool) → (x == c) ≡ b → b ≡ false
    go false e = refl
    go true e = absurd (true≢false (sym h ∙ ap p (eqb-true x c e) ∙ never))

class-operator : (x : ℕ) → is_operator x ≡ true → class x ≡ operator
class-operator x h =
    (λ i. cond (is_this is_operator 34 x refl h i) quote (cond (is_this is_operator 92 x refl h i) backslash (cond (h i) operator (cond (is_space x) space other))))

pub lex-operator : (x : ℕ) (xs : List ℕ) → is_operator x ≡ true → lex between (x ∷ xs) ≡ operator_lexeme x ∷ lex between xs
unfolding lex
lex-operator x xs h = ap (λ c. lex_byte between c x xs (λ m. lex m xs)) (class-operator x h)

no_operator : (x : ℕ) → is_space x ≡ true → is_operator x ≡ false
no_operator x h =
    let differs : (c : ℕ) → is_space c ≡ false → (x == c) ≡ false = λ c no_space. is_this is_space c x no_space h in
    λ i. differs 123 refl i || differs 125 refl i || differs 91 refl i || differs 93 refl i || differs 58 refl i || differs 44 refl i

class-space : (x : ℕ) → is_space x ≡ true → class x ≡ space
class-space x h =
    (λ i. cond (is_this is_space 34 x refl h i) quote (cond (is_this is_space 92 x refl h i) backslash (cond (no_operator x h i) operator (cond (h i) space other))))

pub lex-space : (x : ℕ) (xs : List ℕ) → is_space x ≡ true → lex between (x ∷ xs) ≡ lex between xs
unfolding lex
lex-space x xs h = ap (λ c. lex_byte between c x xs (λ m. lex m xs)) (class-space x h)

passes : (o s : Bool) (x : ℕ) (xs : List ℕ) (k : Mode → List Lexeme) → lex_byte in_string (cond o operator (cond s space other)) x xs k ≡ k in_string
passes true s x xs k = refl
passes false true x xs k = refl
passes false false x xs k = refl

-- a plain byte in a text stands for itself
plain_byte : (x : ℕ) (xs : List ℕ) → is_plain x ≡ true → (content plain (x ∷ xs) ≡ prepend (x ∷ []) (content plain xs)) × (lex in_string (x ∷ xs) ≡ lex in_string xs)
unfolding content lex
plain_byte x xs h =
    let stops = or_parts _ _ (not-true (is_stop x) h) in
    let marks = or_parts _ _ stops.0 in (
      (λ i. cond (marks.0 i) (Some []) (cond (marks.1 i) (content after_backslash xs) (cond (stops.1 i) None (prepend (x ∷ []) (content plain xs))))),
      (λ i. lex_byte in_string (cond (marks.0 i) quote (cond (marks.1 i) backslash (cond (is_operator x) operator (cond (is_space x) space other)))) x xs (λ m. lex m xs))
          ∙ passes (is_operator x) (is_space x) x xs (λ m. lex m xs),
    )

abbrev EndsText : List ℕ → ℕ → Type 0
EndsText bs n = (content plain bs ≡ Some (take n bs)) × (lex in_string bs ≡ lex between (drop (n + 1) bs))

one_more : (x : ℕ) (xs : List ℕ) (n : ℕ) → is_plain x ≡ true → EndsText xs n → EndsText (x ∷ xs) (1 + n)
one_more x xs n h ends =
    let byte = plain_byte x xs h in
    let next : suc n ≡ 1 + n = omega arith in
    let after : suc (n + 1) ≡ 1 + n + 1 = omega arith in (
      byte.0 ∙ ap (prepend (x ∷ [])) ends.0 ∙ ap (λ k. Some (take k (x ∷ xs))) next,
      byte.1 ∙ ends.1 ∙ ap (λ k. lex between (drop k (x ∷ xs))) after,
    )

at_quote : (x : ℕ) (xs : List ℕ) → x ≡ 34 → EndsText (x ∷ xs) 0
unfolding content lex
at_quote x xs e = (ap (λ y. content plain (y ∷ xs)) e, ap (λ y. lex in_string (y ∷ xs)) e)

abbrev EndsWhere : List ℕ → ℕ → Type 0
EndsWhere bs n = n < length bs → get_or bs n 0 ≡ 34 → EndsText bs n

by_first : (x : ℕ) (xs : List ℕ) (b : Bool) (n : ℕ) → is_plain x ≡ b → EndsWhere xs n → EndsWhere (x ∷ xs) (cond b (1 + n) 0)
by_first x xs true n e rest h q =
    let next : suc n ≡ 1 + n = omega arith in
    one_more x xs n e (rest (omega arith) (ap (λ k. get_or (x ∷ xs) k 0) next ∙ q))
by_first x xs false n e rest h q = at_quote x xs q

-- the run of plain bytes that a quote ends is the text
ends_text : (bs : List ℕ) → EndsWhere bs (prefix_len is_plain bs)
ends_text [] h q = absurd (omega arith)
ends_text (x ∷ xs) h q = by_first x xs (is_plain x) (prefix_len is_plain xs) refl (ends_text xs) h q

pub lex-text : (bs : List ℕ) (n : ℕ) → n ≡ prefix_len is_plain bs → n < length bs → get_or bs n 0 ≡ 34 → lex between (34 ∷ bs) ≡ token (string (take n bs)) ∷ lex between (drop (n + 1) bs)
unfolding lex
lex-text bs n is h q =
    let ends : EndsText bs n = subst (EndsWhere bs) (sym is) (ends_text bs) h q in
    ap₂ (λ o l. token (string_token o) ∷ l) ends.0 ends.1

-- ---- words

pub lex-true : (rest : List ℕ) → ends_word rest ≡ true → lex between (116 ∷ 114 ∷ 117 ∷ 101 ∷ rest) ≡ token (boolean true) ∷ lex between rest
unfolding lex word
lex-true rest ended = ap₂ (λ b l. token (cond b (boolean true) bad) ∷ l) ended (in_word-ended rest ended)

pub lex-false : (rest : List ℕ) → ends_word rest ≡ true → lex between (102 ∷ 97 ∷ 108 ∷ 115 ∷ 101 ∷ rest) ≡ token (boolean false) ∷ lex between rest
unfolding lex word
lex-false rest ended = ap₂ (λ b l. token (cond b (boolean false) bad) ∷ l) ended (in_word-ended rest ended)

pub lex-null : (rest : List ℕ) → ends_word rest ≡ true → lex between (110 ∷ 117 ∷ 108 ∷ 108 ∷ rest) ≡ token null ∷ lex between rest
unfolding lex word
lex-null rest ended = ap₂ (λ b l. token (cond b null bad) ∷ l) ended (in_word-ended rest ended)

-- ---- where a text may be cut

either_small : (x : ℕ) (a b : Bool) → (a ≡ true → x < 128) → (b ≡ true → x < 128) → (a || b) ≡ true → x < 128
either_small x true b f g h = f refl
either_small x false b f g h = g h

this_small : (x c : ℕ) → c < 128 → (x == c) ≡ true → x < 128
this_small x c small e = omega (arith, small, eqb-true x c e)

pub space_is_ascii : (x : ℕ) → is_space x ≡ true → x < 128
space_is_ascii x =
    either_small x _ _ (either_small x _ _ (either_small x _ _ (this_small x 32 (omega arith)) (this_small x 9 (omega arith))) (this_small x 10 (omega arith))) (this_small x 13 (omega arith))

pub operator_is_ascii : (x : ℕ) → is_operator x ≡ true → x < 128
operator_is_ascii x =
    either_small x _ _
    (either_small x _ _
    (either_small x _ _ (either_small x _ _ (either_small x _ _ (this_small x 123 (omega arith)) (this_small x 125 (omega arith))) (this_small x 91 (omega arith))) (this_small x 93 (omega arith)))
    (this_small x 58 (omega arith))) (this_small x 44 (omega arith))

-- ---- all blanks at the front

first_blank : (x : ℕ) (xs : List ℕ) (b : Bool) (n : ℕ) → is_space x ≡ b → lex between (drop n xs) ≡ lex between xs → lex between (drop (cond b (1 + n) 0) (x ∷ xs)) ≡ lex between (x ∷ xs)
first_blank x xs true n e rest = let next : 1 + n ≡ suc n = omega arith in ap (λ k. lex between (drop k (x ∷ xs))) next ∙ rest ∙ sym (lex-space x xs e)
first_blank x xs false n e rest = refl

pub lex-blanks : (bs : List ℕ) → lex between (drop (prefix_len is_space bs) bs) ≡ lex between bs
lex-blanks [] = refl
lex-blanks (x ∷ xs) = first_blank x xs (is_space x) (prefix_len is_space xs) refl (lex-blanks xs)

-- a text may be cut behind its blanks
pub blanks_end : (bs : List ℕ) (n : ℕ) → IsUtf8 bs → n ≡ prefix_len is_space bs → IsCharBoundary bs n
blanks_end bs zero utf8 is = IsCharBoundary-start bs utf8
blanks_end bs (suc m) utf8 is =
    let last = prefix_len_passes is_space bs m 0 (omega (arith, is)) in
    let next : m + 1 ≡ suc m = omega arith in
    subst (IsCharBoundary bs) next (IsCharBoundary-after_ascii bs m utf8 (omega (arith, is, prefix_len-le-length is_space bs)) (space_is_ascii _ last))
