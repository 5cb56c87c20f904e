-- Reports line by line.
use Rattle.std.proofs.Common.{◌≡◌, ℕ, suc, ◌+◌, ◌-◌, ◌<◌, List, [], ◌∷◌, ◌++◌, length, append_assoc, ap, sym, ◌∙◌, arith}
use Rattle.std.proofs.lemmas.List.{append-nil}
use Rattle.std.proofs.lemmas.List.Sums.{fold-append}
use Rattle.vm_check.specs.Check.{numbered_lines}
use Rattle.vm_check.specs.Report.{ReportView, text_of_lines, with_line, with_lines}

-- some lines, and then others
pub lines_then : (r : ReportView) (first later : List (List ℕ)) → with_lines (with_lines r first) later ≡ with_lines r (first ++ later)
lines_then r first later = sym (fold-append with_line r first later)

pub two_then : (r a b : ReportView) (xs ys : List (List ℕ)) → a ≡ with_lines r xs → b ≡ with_lines a ys → b ≡ with_lines r (xs ++ ys)
two_then r a b xs ys first second = second ∙ ap (λ (s : ReportView). with_lines s ys) first ∙ lines_then r xs ys

pub three_then : (r a b c : ReportView) (xs ys zs : List (List ℕ)) → a ≡ with_lines r xs → b ≡ with_lines a ys → c ≡ with_lines b zs
    → c ≡ with_lines r (xs ++ (ys ++ zs))
three_then r a b c xs ys zs first second third =
    third
    ∙ ap (λ (s : ReportView). with_lines s zs) (second ∙ ap (λ (s : ReportView). with_lines s ys) first)
    ∙ lines_then (with_lines r xs) ys zs
    ∙ lines_then r xs (ys ++ zs)

-- the parts behind the one of a number
pub next_lines : (lines : ℕ → List (List ℕ)) (r new : ReportView) (number count : ℕ) → number < count → new ≡ with_lines r (lines number)
    → with_lines new (numbered_lines lines (number + 1) (count - (number + 1))) ≡ with_lines r (numbered_lines lines number (count - number))
next_lines lines r new number count there is =
    let left : count - number ≡ suc (count - (number + 1)) = omega arith in
    rw left (ap (λ (s : ReportView). with_lines s (numbered_lines lines (number + 1) (count - (number + 1)))) is
    ∙ lines_then r (lines number) (numbered_lines lines (number + 1) (count - (number + 1))))

-- ---- a whole report

pub text_is : (r : ReportView) (lines : List (List ℕ)) → (with_lines r lines).text ≡ r.text ++ text_of_lines lines
text_is r [] = sym (append-nil r.text)
text_is r (line ∷ lines) = text_is (with_line r line) lines ∙ simp append_assoc

pub count_is : (r : ReportView) (lines : List (List ℕ)) → (with_lines r lines).count ≡ r.count + length lines
count_is r [] = omega arith
count_is r (line ∷ lines) = omega (arith, count_is (with_line r line) lines)
