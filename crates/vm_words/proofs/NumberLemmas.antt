-- The number that a text is, and the range in which it lies.
use Rattle.std.proofs.Common.{◌≡◌, ℕ, List, [], ◌∷◌, Bool, Option, Some, None, Result, Ok, Err, IfSome, true, false, ◌&&◌, ◌^◌, length, refl, sym, ap, nat_lt, lt-ltb, ltb-true, leb-true, true≢false}
use Rattle.std.specs.List.{list_all}
use Rattle.std.specs.Char.{digit_value}
use Rattle.std.specs.Option.{option_map_or}
use Rattle.std.specs.Prelude.{option_and_then}
use Rattle.std.specs.Result.{result_ok}
use Rattle.std.specs.Str.Parse.{AllDigits, ParsesUnsigned, digits_value, without_leading_plus}
use Rattle.clap.specs.ValueTests.{is_numeral}
use Rattle.clap.specs.Words.{Row, Text}
use Rattle.vm_words.specs.declared.command_line.ValueKind.{ValueKind}
use Rattle.vm_words.specs.declared.command_line.ValueKind.TheVariants as kind
use Rattle.vm_words.specs.Words.{LiesIn, NumbersLieIn, ValueRule, fits, is_fit, is_within, number_in, number_of, text_of}

digits_pass : (ds : List ℕ) → AllDigits 10 ds → list_all (λ d. nat_lt (digit_value d) 10) ds ≡ true
digits_pass [] h = refl
digits_pass (d ∷ ds) h = rw (lt-ltb (digit_value d) 10 h.0) (digits_pass ds h.1)

both : (a b : Bool) → (a && b) ≡ true → (a ≡ true) × (b ≡ true)
both true b e = (refl, e)
both false b e = absurd (true≢false (sym e))

digits_from : (ds : List ℕ) → list_all (λ d. nat_lt (digit_value d) 10) ds ≡ true → AllDigits 10 ds
digits_from [] e = tt
digits_from (d ∷ ds) e =
    let parts = both _ _ e in
    (ltb-true _ _ parts.0, digits_from ds parts.1)

abbrev is_number : List ℕ → Bool
is_number digits = is_numeral digits && nat_lt (digits_value 10 digits) (2 ^ 64)

-- what a text is read as
pub number_in-parse : {E : Type 0} (text : Text) (r : Result ℕ E) → ParsesUnsigned 64 10 text r → result_ok r ≡ number_in text
number_in-parse text (Ok n) h =
    let digits = without_leading_plus text in
    rw (lt-ltb 0 (length digits) h.0.0.0, digits_pass digits h.0.0.1, lt-ltb (digits_value 10 digits) (2 ^ 64) h.0.1) (ap Some h.1)
number_in-parse text (Err error) h = go (is_number (without_leading_plus text)) refl
  where
    go : (b : Bool) → is_number (without_leading_plus text) ≡ b → None ≡ number_in text
    go false t = rw t refl
    go true t =
        let outer = both _ _ t in
        let inner = both _ _ outer.0 in
        absurd (h ((ltb-true _ _ inner.0, digits_from (without_leading_plus text) inner.1), ltb-true _ _ outer.1))

within : (least greatest : ℕ) (number : Option ℕ) → is_within least greatest number ≡ true → IfSome number (LiesIn (kind.Number least greatest))
within least greatest None e = tt
within least greatest (Some n) e =
    let parts = both _ _ e in
    (leb-true _ _ parts.0, leb-true _ _ parts.1)

anything : (kind : ValueKind) → ((n : ℕ) → LiesIn kind n) → (number : Option ℕ) → IfSome number (LiesIn kind)
anything kind all None = tt
anything kind all (Some n) = all n

lies-in : (kind : ValueKind) (text : Option Text) → option_map_or (fits kind) text true ≡ true → IfSome (option_and_then number_in text) (LiesIn kind)
lies-in kind None e = tt
lies-in kind.Text (Some text) e = anything kind.Text (λ n. tt) (number_in text)
lies-in kind.Texts (Some text) e = anything kind.Texts (λ n. tt) (number_in text)
lies-in (kind.Number least greatest) (Some text) e = within least greatest (number_in text) e

pub numbers-lie-in : (values : List ValueRule) (rows : List Row) → list_all (is_fit rows) values ≡ true → NumbersLieIn values rows
unfolding number_of
numbers-lie-in [] rows e = tt
numbers-lie-in (value ∷ values) rows e =
    let parts = both _ _ e in
    (lies-in value.kind (text_of value.name rows) parts.0, numbers-lie-in values rows parts.1)
