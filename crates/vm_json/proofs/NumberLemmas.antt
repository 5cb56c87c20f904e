-- The numbers of 64 bits among those that a text writes.
use Rattle.std.proofs.Common.{◌≡◌, ℕ, ◌<◌, ◌^◌, Bool, true, false, true≢false, Option, Some, None, option_and_then, refl, sym, ap, lt-ltb, length}
use Rattle.std.proofs.lemmas.Bool.{and_parts, ltb-true, eqb-true}
use Rattle.std.specs.Prelude.{◌&&◌, not, nat_lt, nat_le, if◌then◌else◌}
use Rattle.std.specs.Option.{SomeIff}
use Rattle.std.specs.Float.{binary64, float_is_finite}
use Rattle.fast_float.specs.Text.{Parts, IsInteger, digits_of, nearest, with_sign}
use Rattle.serde_json.specs.Data.{Num, unsigned, negative, float}
use Rattle.serde_json.specs.Find.{as_u64}
use Rattle.serde_json.specs.Read.{number_from, float_of, is_integer}

as_u64-if : (b : Bool) (x y : Option Num) → option_and_then as_u64 x ≡ None → option_and_then as_u64 y ≡ None → option_and_then as_u64 (if b then x else y) ≡ None
as_u64-if true x y e f = e
as_u64-if false x y e f = f

as_u64-unless : (b : Bool) (x y : Option Num) → (b ≡ true → ⊥) → option_and_then as_u64 y ≡ None → option_and_then as_u64 (if b then x else y) ≡ None
as_u64-unless true x y e f = absurd (e refl)
as_u64-unless false x y e f = f

float_is_not_whole : (sign : Bool) (p : Parts) → option_and_then as_u64 (float_of sign p) ≡ None
float_is_not_whole sign p = as_u64-if (float_is_finite (nearest binary64 sign p)) (Some (float (nearest binary64 sign p))) None refl refl

pub negative_is_not_whole : (p : Parts) → option_and_then as_u64 (number_from true p) ≡ None
negative_is_not_whole p =
    as_u64-if (is_integer p && nat_lt 0 (digits_of p) && nat_le (digits_of p) (2 ^ 63)) (Some (negative (with_sign true (digits_of p)))) (float_of true p) refl (float_is_not_whole true p)

is_integer_test : (p : Parts) → IsInteger p → is_integer p ≡ true
is_integer_test p h = rw (lt-ltb _ _ h.0, h.1, h.2)

not_true : (b : Bool) → not b ≡ true → b ≡ false
not_true true e = absurd (true≢false (sym e))
not_true false e = refl

IsInteger_tested : (p : Parts) → is_integer p ≡ true → IsInteger p
IsInteger_tested p e =
    let both = and_parts (nat_lt 0 (length p.whole) && not p.point) _ e in
    let first = and_parts (nat_lt 0 (length p.whole)) (not p.point) both.0 in
    (ltb-true _ _ first.0, not_true p.point first.1, eqb-true _ _ both.1)

pub whole_is : (p : Parts) (r : Option ℕ) → SomeIff r (IsInteger p × (digits_of p < 2 ^ 64)) (digits_of p) → r ≡ option_and_then as_u64 (number_from false p)
whole_is p None h = sym (as_u64-unless (is_integer p && nat_lt (digits_of p) (2 ^ 64)) (Some (unsigned (digits_of p))) (float_of false p) (λ e. let both = and_parts (is_integer p) _ e in h (IsInteger_tested p both.0, ltb-true _ _ both.1)) (float_is_not_whole false p))
whole_is p (Some x) h = rw (is_integer_test p h.0.0, lt-ltb _ _ h.0.1) (ap Some h.1)
