use Rattle.std.proofs.Common.{◌≡◌, ℕ, ◌+◌, ◌-◌, ◌*◌, ◌%◌, ◌<◌, ◌≤◌, Bool, true, false, nat_lt, ◌&&◌, if◌then◌else◌, None, Some, ◌∷◌, ◌++◌, [], List, length, get_or, take, drop, refl, ap, sym, ◌∙◌, arith}
use Rattle.std.proofs.lemmas.List.{append_assoc, append-nil, take_all, take-append-le}
use Rattle.std.proofs.lemmas.List.Folds.{list_all_at}
use Rattle.std.specs.Char.{digit_value}
use Rattle.std.specs.List.{list_all}
use Rattle.vm_trace.specs.Words.{hex_pairs, is_hex, pair_of}
use Rattle.vm_trace.proofs.Hex.{pair_from}
use Rattle.vm_trace.proofs.entering.keep_pairs.Goals as goal

abbrev is_digit : ℕ → Bool
is_digit c = nat_lt (digit_value c) 16

none_taken : (b : Bool) (x : ℕ) → (if b then Some x else None) ≡ None → b ≡ false
none_taken true x h = cc
none_taken false x h = refl

one_of_two : (a b all : Bool) → (a && b) ≡ false → (a ≡ false → all ≡ false) → (b ≡ false → all ≡ false) → all ≡ false
one_of_two true b all none first second = second none
one_of_two false b all none first second = first refl

and_false : (a b : Bool) → b ≡ false → (a && b) ≡ false
and_false true b is = is
and_false false b is = refl

-- two characters that spell no byte
not_hex : (text : List ℕ) → 2 ≤ length text → pair_of (get_or text 0 0) (get_or text 1 0) ≡ None → is_hex text ≡ false
not_hex text inside none =
    let test = none_taken (is_digit (get_or text 0 0) && is_digit (get_or text 1 0)) _ none in
    and_false _ _
    (one_of_two _ _ (list_all is_digit text) test (list_all_at is_digit text 0 0 (omega arith)) (list_all_at is_digit text 1 0 inside))

taken_back : (start : ℕ) (old before store new more : List ℕ) → start ≡ length old → before ≡ old → store ≡ before ++ more → new ≡ take start store → new ≡ old
taken_back start old before store new more place same spelled is =
    is ∙ ap (take start) (spelled ∙ ap (λ l. l ++ more) same) ∙ take-append-le start old more (omega arith) ∙ take_all start old (omega arith)

-- two digits in front of a text make it no other than what is behind them
hex_behind : (text : List ℕ) → 2 ≤ length text → is_digit (get_or text 0 0) ≡ true → is_digit (get_or text 1 0) ≡ true → is_hex text ≡ is_hex (take (length text - 2) (drop 2 text))
hex_behind [] some high low = absurd (omega arith)
hex_behind (a ∷ []) some high low = absurd (omega arith)
hex_behind (a ∷ b ∷ rest) some high low =
    let left : take (length (a ∷ b ∷ rest) - 2) rest ≡ rest = take_all _ rest (omega arith) in
    let even : length (a ∷ b ∷ rest) % 2 ≡ length rest % 2 = omega arith in
    rw (left, even, high, low) refl

-- and their byte comes before those of what is behind them
pairs_behind : (text : List ℕ) → 2 ≤ length text
    → hex_pairs text ≡ (16 * digit_value (get_or text 0 0) + digit_value (get_or text 1 0)) ∷ hex_pairs (take (length text - 2) (drop 2 text))
pairs_behind [] some = absurd (omega arith)
pairs_behind (a ∷ []) some = absurd (omega arith)
pairs_behind (a ∷ b ∷ rest) some =
    let left : take (length (a ∷ b ∷ rest) - 2) rest ≡ rest = take_all _ rest (omega arith) in
    ap (λ l. (16 * digit_value a + digit_value b) ∷ hex_pairs l) (sym left)

-- nothing is left
ended_hex : (left : List ℕ) → length left < 2 → length left % 2 ≡ 0 → is_hex left ≡ true
ended_hex [] few even = refl
ended_hex (a ∷ left) few even = absurd (omega arith)

ended_pairs : (left : List ℕ) → length left < 2 → hex_pairs left ≡ []
ended_pairs [] few = refl
ended_pairs (a ∷ []) few = refl
ended_pairs (a ∷ b ∷ left) few = absurd (omega arith)

pub loop-left-init : goal.loop-left-init
loop-left-init c = record {
  digits = refl;
  spelled = ([], sym (append-nil c.reserve.new.self.items), refl);
  even = omega arith;
  room = omega (arith, c.in_ok-reserve.ensures.ok);
}

pub loop-left-smaller : goal.loop-left-smaller
loop-left-smaller c = omega arith

pub push_reserved-requires : goal.push_reserved-requires
push_reserved-requires c =
    let room = c.loop-left.invariant.room in
    let some = c.in-len2-up.len_at_least in
    omega (arith, room, some)

pub loop-left-preserved : goal.loop-left-preserved
loop-left-preserved c =
    let left = c.loop-left.left.now in
    let some : 2 ≤ length left = c.in-len2-up.len_at_least in
    let pair = pair_from (get_or left 0 0) (get_or left 1 0) c.in-Some.byte (sym c.pair_of.ensures ∙ c.in-Some.is) in
    let so_far = c.loop-left.invariant.spelled in
    let rest = take (length left - 2) (drop 2 left) in
    record {
      digits = c.loop-left.invariant.digits ∙ hex_behind left some pair.0 pair.1;
      spelled = (
        so_far.0 ++ c.in-Some.byte ∷ [],
        c.push_reserved.ensures.items ∙ ap (λ l. l ++ c.in-Some.byte ∷ []) so_far.1 ∙ append_assoc c.reserve.new.self.items so_far.0 _,
        append_assoc so_far.0 (c.in-Some.byte ∷ []) (hex_pairs rest) ∙ ap (λ b. so_far.0 ++ b ∷ hex_pairs rest) pair.2 ∙ ap (λ l. so_far.0 ++ l) (sym (pairs_behind left some)) ∙ so_far.2,
      );
      even = omega (arith, c.loop-left.invariant.even);
      room = omega (arith, c.loop-left.invariant.room);
    }

pub returns-in_default-pair_of-clause-none : goal.returns-in_default-pair_of-clause-none
returns-in_default-pair_of-clause-none c none = record {
  other = c.loop-left.invariant.digits ∙ not_hex c.loop-left.left.now c.in-len2-up.len_at_least (sym c.pair_of.ensures ∙ c.in_default-pair_of.is);
  same =
      taken_back c.in_ok-start.start c.args.store.now.items c.reserve.new.self.items c.loop-left.store.items c.truncate.new.self.items c.loop-left.invariant.spelled.0 c.in_ok-start.ensures.place
      c.reserve.ensures.items c.loop-left.invariant.spelled.1 c.truncate.ensures.items;
}

pub returns-clause-kept : goal.returns-clause-kept
returns-clause-kept c =
    let left = c.loop-left.left.now in
    let few : length left < 2 = omega arith in
    let so_far = c.loop-left.invariant.spelled in
    let all : so_far.0 ≡ hex_pairs c.args.text.now = sym (append-nil so_far.0) ∙ ap (λ l. so_far.0 ++ l) (sym (ended_pairs left few)) ∙ so_far.2 in
    record {
      hex = c.loop-left.invariant.digits ∙ ended_hex left few c.loop-left.invariant.even;
      place = c.in_ok-start.ensures.place;
      added = so_far.1 ∙ ap (λ l. l ++ so_far.0) c.reserve.ensures.items ∙ ap (λ l. c.args.store.now.items ++ l) all;
    }
