-- Numerals of steps.
use Rattle.std.proofs.Common.{◌≡◌, ℕ, ◌^◌, ◌<◌, true, List, [], ◌∷◌, decimal, refl, arith, le-leb}
use Rattle.std.proofs.lemmas.Bool.{and_from}
use Rattle.std.proofs.lemmas.Fmt.{decimal_is_IsNumeral, decimal_nonempty, length-decimal-le}
use Rattle.std.proofs.lemmas.List.Sums.{AllPass-from_list_all}
use Rattle.std.specs.Char.{is_ascii_digit}
use Rattle.std.specs.List.{list_all}
use Rattle.std.specs.Str.Parse.{AllDigits}
use Rattle.vm_laws.proofs.SafeLemmas.{digit_range}
use Rattle.vm_trace.specs.Spelling.{IsNumeral}

all-digits : (ds : List ℕ) → AllDigits 10 ds → list_all is_ascii_digit ds ≡ true
all-digits [] are = refl
all-digits (d ∷ ds) are =
    let range = digit_range d are.0 in
    and_from (is_ascii_digit d) (list_all is_ascii_digit ds) (and_from _ _ (le-leb 48 d range.0) (le-leb d 57 range.1)) (all-digits ds are.1)

pub numeral : (n : ℕ) → n < 10 ^ 10 → IsNumeral (decimal n) n
numeral n small =
    let fits : n < 2 ^ 64 = omega arith in
    let is = decimal_is_IsNumeral n fits in
    record {
      some = decimal_nonempty n fits;
      short = length-decimal-le 10 n (omega arith) small fits;
      digits = AllPass-from_list_all is_ascii_digit (decimal n) (all-digits (decimal n) is.0.1);
      value = is.1;
    }
