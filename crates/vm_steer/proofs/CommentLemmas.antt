-- Texts of comments alone.
use Rattle.std.proofs.Common.{◌≡◌, ◌∙◌, ℕ, ◌+◌, ◌%◌, ◌<◌, ◌^◌, ◌==◌, ◌&&◌, not, Bool, true, false, true≢false, List, [], ◌∷◌, ◌++◌, append_assoc, codes, refl, sym, ap, arith}
use Rattle.std.specs.Fmt.{decimal}
use Rattle.std.proofs.lemmas.Bool.Decides.{nat_tests}
use Rattle.std.proofs.lemmas.Fmt.{decimal_by_steps}
use Rattle.vm_samples.specs.BadLines.{text_of_what}
use Rattle.vm_samples.specs.declared.sample.BadLine.{BadLine}
use Rattle.vm_samples.specs.declared.sample.BadLine.TheVariants.{NotALine, NotANumber, TooManyDomains, NoDomain}
use Rattle.vm_samples.specs.declared.sample.BadSample.{BadSample}
use Rattle.vm_steer.specs.Laws.{are_comments}
use Rattle.vm_steer.specs.Text.{bad_line, bad_text, sample_line}

-- no line feed is in it
abbrev no_line : List ℕ → Bool
no_line [] = true
no_line (byte ∷ bytes) = not (byte == 10) && no_line bytes

split_test : (b c : Bool) → (not b && c) ≡ true → (b ≡ false) × (c ≡ true)
split_test true c e = absurd (true≢false (sym e))
split_test false c e = (refl, e)

within_line : (xs ys : List ℕ) → no_line xs ≡ true → are_comments false (xs ++ ys) ≡ are_comments false ys
within_line [] ys e = refl
within_line (x ∷ xs) ys e =
    let both = split_test (x == 10) (no_line xs) e in
    ap (λ (b : Bool). are_comments b (xs ++ ys)) both.0 ∙ within_line xs ys both.1

no_line_more : (xs ys : List ℕ) → no_line xs ≡ true → no_line ys ≡ true → no_line (xs ++ ys) ≡ true
no_line_more [] ys e f = f
no_line_more (x ∷ xs) ys e f =
    let both = split_test (x == 10) (no_line xs) e in
    (λ i. not (both.0 i) && no_line_more xs ys both.1 f i)

digit_ends_none : (n : ℕ) → no_line ((48 + n) ∷ []) ≡ true
digit_ends_none n = let e : ((48 + n) == 10) ≡ false = grind (arith, nat_tests) in ap (λ (b : Bool). not b && true) e

number_ends_none : (n : ℕ) → n < 2 ^ 64 → no_line (decimal n) ≡ true
number_ends_none n h = decimal_by_steps (λ _ ds. no_line ds ≡ true) (λ n _. digit_ends_none n) (λ n ds _ e. no_line_more ds ((48 + n % 10) ∷ []) e (digit_ends_none (n % 10))) n h

words_end_none : (what : BadLine) → no_line (text_of_what what) ≡ true
words_end_none NotALine = refl
words_end_none NotANumber = refl
words_end_none TooManyDomains = refl
words_end_none NoDomain = refl

bad_line_comments : (bad : BadSample) → bad.line < 2 ^ 64 → are_comments true (bad_line bad) ≡ true
unfolding bad_line
bad_line_comments bad h =
    within_line (codes " line ") (decimal bad.line ++ (codes ": " ++ (text_of_what bad.what ++ codes "\n"))) refl
    ∙ (within_line (decimal bad.line) (codes ": " ++ (text_of_what bad.what ++ codes "\n")) (number_ends_none bad.line h)
    ∙ (within_line (codes ": ") (text_of_what bad.what ++ codes "\n") refl
    ∙ within_line (text_of_what bad.what) (codes "\n") (words_end_none bad.what)))

pub bad_comments : (number : ℕ) (bad : BadSample) → number < 2 ^ 64 → bad.line < 2 ^ 64 → are_comments true (bad_text number bad) ≡ true
unfolding bad_text sample_line
bad_comments number bad small h =
    let rest = bad_line bad in
    ap (λ (l : List ℕ). are_comments true (codes "# sample " ++ l)) (append_assoc (decimal number) (codes "\n") rest)
    ∙ (within_line (codes " sample ") (decimal number ++ (codes "\n" ++ rest)) refl
    ∙ (within_line (decimal number) (codes "\n" ++ rest) (number_ends_none number small)
    ∙ bad_line_comments bad h))
