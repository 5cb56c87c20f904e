use Rattle.std.proofs.Common.{◌≡◌, ◌≤◌, ℕ, true, List, Some, length, refl, sym, ◌∙◌, arith}
use Rattle.std.proofs.lemmas.Bool.{eqb-false, le-leb}
use Rattle.std.specs.Char.{is_ascii_digit}
use Rattle.std.specs.List.{list_all}
use Rattle.std.specs.Str.Parse.{digits_value}
use Rattle.vm_commands.specs.Lines.{shares_of}
use Rattle.vm_commands.proofs.line.shares_of.Goals as goal

-- a number in its range, of as many digits as it may have
read : (word : List ℕ) (shares : ℕ) → 1 ≤ length word → length word ≤ 7 → list_all is_ascii_digit word ≡ true
    → digits_value 10 word ≡ shares → 1 ≤ shares → shares ≤ 1000000 → Some shares ≡ shares_of word
unfolding shares_of
read word shares some short digits value least most =
    let least_is = le-leb 1 shares least in
    let most_is = le-leb shares 1000000 most in
    rw (le-leb 1 (length word) some, le-leb (length word) 7 short, digits, value, least_is, most_is) refl

pub returns-in-1-to-1000000 : goal.returns-in-1-to-1000000
returns-in-1-to-1000000 c =
    let word = c.args.word.now in
    let some = eqb-false (length word) 0 (sym c.is_empty.ensures ∙ c.if-is_empty.false) in
    let short : length word ≤ 7 = omega arith in
    let digits = sym c.is_decimal.ensures ∙ c.if-not-is_decimal.false in
    let value = sym c.in_ok-shares.ensures.1 in
    read word c.in_ok-shares.shares (omega (arith, some)) short digits value (omega arith) (omega arith)
