-- What is a list of some values is read as these.
use Rattle.std.proofs.Common.{◌≡◌, ◌≢◌, ℕ, zero, suc, ◌+◌, ◌-◌, ◌*◌, ◌^◌, ◌≤◌, ◌==◌, inl, inr, Bool, true, false, cond, List, [], ◌∷◌, ◌++◌, length, map, Some, None, Result, Ok, Err, IfOk, IfErr, refl, ap, sym, subst, ◌∙◌, arith}
use Rattle.std.proofs.lemmas.Bool.{le-leb, le-ltb, ne_eqb}
use Rattle.std.proofs.lemmas.Bool.Decides.{nat_tests}
use Rattle.std.proofs.lemmas.List.{append_assoc, append-nil}
use Rattle.std.proofs.lemmas.List.Elements.{All-append}
use Rattle.std.proofs.lemmas.List.Splits.{slice_split_none, slice_split_at}
use Rattle.std.proofs.lemmas.List.Sums.{list_all-from_AllPass}
use Rattle.std.specs.Char.{is_ascii_digit}
use Rattle.std.specs.List.{All, concat, join_with_byte, slice_split}
use Rattle.std.specs.Option.{option_map}
use Rattle.vm_lists.specs.declared.bounds.Unit.{Unit as Units}
use Rattle.vm_lists.specs.declared.bounds.Unit.TheVariants.{Whole, Hundredths}
use Rattle.vm_lists.specs.declared.bounds.Limits.{Limits}
use Rattle.vm_lists.specs.declared.faults.ListFault.{ListFault}
use Rattle.vm_lists.specs.declared.faults.ListFaultKind.{ListFaultKind}
use Rattle.vm_lists.specs.declared.faults.ListFaultKind.TheVariants.{NoItem, OutsideRange, EndsBelow, NoStep, Memory}
use Rattle.vm_lists.specs.declared.items.Written.{Written}
use Rattle.vm_lists.specs.Items.{begins_with_dots, around_dots, is_slash, one_of, range_written, number_written, written_of, values_of, item_of}
use Rattle.vm_lists.specs.Lists.{is_comma, items_of, list_of, IsWithin, IsFaultOf}
use Rattle.vm_lists.specs.ListGrammar.{IsNumeral, AreDecimals, IsNumber, Form, Single, Range, Stepped, HasForm, from_of, to_of, step_of, IsAllowed, IsItem, AreItems, IsList, IsOrMemory}
use Rattle.vm_lists.specs.Numbers.{digits_in, hundredths_of, is_point, number_of}
use Rattle.vm_lists.specs.Ranges.{range_of}
use Rattle.vm_lists.proofs.GrammarLaws.{allowed_as, list_from}
use Rattle.vm_lists.proofs.NumberLaws.{digits_in-digits}
use Rattle.vm_lists.proofs.PlaceLaws.{has-none, stands_first}
use Rattle.vm_lists.proofs.ShownLaws.{IsDigits, whole_number, whole_percent, pointed_percent, digit_no_comma, pointless, begins_other, around_dots-pointless, around_dots-point}
use Rattle.vm_lists.proofs.WithinLaws.{list_within}

numeral_digits : (word : List ℕ) (n : ℕ) → IsNumeral 10 word n → IsDigits word n
numeral_digits word n is = record { some = is.some; few = is.short; digits = list_all-from_AllPass is_ascii_digit word is.decimal; value = is.value }

-- digits, at most two of them, have no point
no_points : (most : ℕ) (word : List ℕ) (n : ℕ) → IsNumeral most word n → All (λ b. is_point b ≡ false) word
no_points most word n is = pointless word (list_all-from_AllPass is_ascii_digit word is.decimal)

scaled_back : (len n h : ℕ) → 1 ≤ len → len ≤ 2 → h ≡ n * 10 ^ (2 - len) → cond (len == 1) (10 * n) n ≡ h
scaled_back zero n h some few is = absurd (omega arith)
scaled_back (suc zero) n h some few is = omega (arith, is)
scaled_back (suc (suc zero)) n h some few is = omega (arith, is)
scaled_back (suc (suc (suc len))) n h some few is = absurd (omega arith)

decimals_read : (word : List ℕ) (h : ℕ) → AreDecimals word h → hundredths_of word ≡ Some h
unfolding hundredths_of
decimals_read word h are =
    let is = are.1 in
    let read : digits_in 2 word ≡ Some are.0 = digits_in-digits 2 word is.some is.short (list_all-from_AllPass is_ascii_digit word is.decimal) ∙ ap Some is.value in
    rw read (ap Some (scaled_back (length word) are.0 h is.some is.short are.2))

number_read : (unit : Units) (word : List ℕ) (n : ℕ) → IsNumber unit word n → number_of unit word ≡ Some n
number_read Whole word n is = whole_number word n (numeral_digits word n is)
number_read Hundredths word n is = elim is [
  | inl whole ↦ whole_percent word whole.0 (numeral_digits word whole.0 whole.1) ∙ ap Some (sym whole.2)
  | inr pointed ↦
      ap (number_of Hundredths) pointed.whole
      ∙ pointed_percent pointed.front pointed.decimals pointed.percent pointed.hundredths (numeral_digits pointed.front pointed.percent pointed.before) (decimals_read pointed.decimals pointed.hundredths pointed.behind)
      ∙ ap Some (sym pointed.sum)
]

-- a number has no byte but digits and a point
one_free : (p : ℕ → Bool) (byte : ℕ) → p byte ≡ false → All (λ b. p b ≡ false) (byte ∷ [])
one_free p byte free zero d l = free
one_free p byte free (suc k) d l = absurd (omega arith)

numeral_free : (p : ℕ → Bool) → ((c : ℕ) → is_ascii_digit c ≡ true → p c ≡ false) → (most : ℕ) (word : List ℕ) (n : ℕ) → IsNumeral most word n → All (λ b. p b ≡ false) word
numeral_free p digit most word n is = λ k d l. digit _ (is.decimal k d l)

joined_free : (p : ℕ → Bool) (a : List ℕ) (byte : ℕ) (b : List ℕ) → All (λ b. p b ≡ false) a → p byte ≡ false → All (λ b. p b ≡ false) b → All (λ b. p b ≡ false) (a ++ byte ∷ b)
joined_free p a byte b front free behind =
    All-append (λ b. p b ≡ false) a (byte ∷ b) front (All-append (λ b. p b ≡ false) (byte ∷ []) b (one_free p byte free) behind)

number_free : (p : ℕ → Bool) → ((c : ℕ) → is_ascii_digit c ≡ true → p c ≡ false) → p 46 ≡ false → (unit : Units) (word : List ℕ) (n : ℕ) → IsNumber unit word n → All (λ b. p b ≡ false) word
number_free p digit point Whole word n is = numeral_free p digit 10 word n is
number_free p digit point Hundredths word n is = elim is [
  | inl whole ↦ numeral_free p digit 10 word whole.0 whole.1
  | inr pointed ↦
      subst (All (λ b. p b ≡ false)) (sym pointed.whole)
      (joined_free p pointed.front 46 pointed.decimals (numeral_free p digit 10 pointed.front pointed.percent pointed.before) point (numeral_free p digit 2 pointed.decimals pointed.behind.0 pointed.behind.1))
]

digit_no_slash : (c : ℕ) → is_ascii_digit c ≡ true → is_slash c ≡ false
digit_no_slash c is = grind (arith, nat_tests)

no_slash : (unit : Units) (word : List ℕ) (n : ℕ) → IsNumber unit word n → All (λ b. is_slash b ≡ false) word
no_slash = number_free is_slash digit_no_slash refl

no_comma : (unit : Units) (word : List ℕ) (n : ℕ) → IsNumber unit word n → All (λ b. is_comma b ≡ false) word
no_comma = number_free is_comma digit_no_comma refl

-- the first two points stand behind a number
front_dots : (front tail x behind : List ℕ) → All (λ b. is_point b ≡ false) front → around_dots tail ≡ Some (x, behind) → around_dots (front ++ tail) ≡ Some (front ++ x, behind)
front_dots [] tail x behind none found = found
front_dots (b ∷ front) tail x behind none found =
    rw (begins_other b (front ++ tail) (none 0 0 (omega arith)))
    (ap (option_map (λ parts. (b ∷ parts.0, parts.1))) (front_dots front tail x behind (λ k d l. none (suc k) d (omega arith)) found))

numeral_dots : (word behind : List ℕ) → All (λ b. is_point b ≡ false) word → around_dots (word ++ 46 ∷ 46 ∷ behind) ≡ Some (word, behind)
numeral_dots word behind none = front_dots word (46 ∷ 46 ∷ behind) [] behind none refl ∙ ap (λ l. Some (l, behind)) (append-nil word)

begins_one : (decimals tail : List ℕ) → 1 ≤ length decimals → All (λ b. is_point b ≡ false) decimals → begins_with_dots (46 ∷ (decimals ++ tail)) ≡ false
begins_one [] tail some none = absurd (omega arith)
begins_one (c ∷ rest) tail some none = none 0 0 (omega arith)

pointed_dots : (front decimals behind : List ℕ) → All (λ b. is_point b ≡ false) front → 1 ≤ length decimals → All (λ b. is_point b ≡ false) decimals → around_dots ((front ++ 46 ∷ decimals) ++ 46 ∷ 46 ∷ behind) ≡ Some (front ++ 46 ∷ decimals, behind)
pointed_dots front decimals behind none some others =
    let tail = decimals ++ 46 ∷ 46 ∷ behind in
    let inner : around_dots (46 ∷ tail) ≡ Some (46 ∷ decimals, behind) =
    rw (begins_one decimals (46 ∷ 46 ∷ behind) some others) (ap (option_map (λ parts. (46 ∷ parts.0, parts.1))) (numeral_dots decimals behind others)) in
    ap around_dots (append_assoc front (46 ∷ decimals) (46 ∷ 46 ∷ behind)) ∙ front_dots front (46 ∷ tail) (46 ∷ decimals) behind none inner

number_dots : (unit : Units) (word : List ℕ) (n : ℕ) (behind : List ℕ) → IsNumber unit word n → around_dots (word ++ 46 ∷ 46 ∷ behind) ≡ Some (word, behind)
number_dots Whole word n behind is = numeral_dots word behind (no_points 10 word n is)
number_dots Hundredths word n behind is = elim is [
  | inl whole ↦ numeral_dots word behind (no_points 10 word whole.0 whole.1)
  | inr pointed ↦
      subst (λ word. around_dots (word ++ 46 ∷ 46 ∷ behind) ≡ Some (word, behind)) (sym pointed.whole)
      (pointed_dots pointed.front pointed.decimals behind (no_points 10 pointed.front pointed.percent pointed.before) pointed.behind.1.some (no_points 2 pointed.decimals pointed.behind.0 pointed.behind.1))
]

number_no_dots : (unit : Units) (word : List ℕ) (n : ℕ) → IsNumber unit word n → around_dots word ≡ None
number_no_dots Whole word n is = around_dots-pointless word (no_points 10 word n is)
number_no_dots Hundredths word n is = elim is [
  | inl whole ↦ around_dots-pointless word (no_points 10 word whole.0 whole.1)
  | inr pointed ↦
      ap around_dots pointed.whole
      ∙ around_dots-point pointed.front pointed.decimals (no_points 10 pointed.front pointed.percent pointed.before) pointed.behind.1.some (no_points 2 pointed.decimals pointed.behind.0 pointed.behind.1)
]

-- a form is read with its numbers
record IsReadAs (unit : Units) (at : ℕ) (text : List ℕ) (form : Form) : Type 0 where
  item : Written
  read : written_of unit at text ≡ Some item
  from : item.from ≡ from_of form
  to : item.to ≡ to_of form
  step : item.step ≡ step_of unit form

form_read : (unit : Units) (at : ℕ) (text : List ℕ) (form : Form) → HasForm unit text form → IsReadAs unit at text form
unfolding written_of number_written range_written
form_read unit at text (Single n) is = record {
  item = record { from = n; to = n; step = one_of unit; to_at = at; step_at = at };
  read = rw (number_no_dots unit text n is, number_read unit text n is) refl;
  from = refl;
  to = refl;
  step = refl;
}
form_read unit at text (Range from to) is =
    let a = is.0 in
    let b = is.1 in
    record {
      item = record { from = from; to = to; step = one_of unit; to_at = at + (length a + 2); step_at = at };
      read =
          ap (written_of unit at) is.4
          ∙ rw (number_dots unit a from b is.2, number_read unit a from is.2, has-none is_slash b (no_slash unit b to is.3), number_read unit b to is.3) refl;
      from = refl;
      to = refl;
      step = refl;
    }
form_read unit at text (Stepped from to step) is =
    let a = is.0 in
    let b = is.1 in
    let d = is.2 in
    let first = stands_first is_slash b 47 d (no_slash unit b to is.4) refl in
    record {
      item = record { from = from; to = to; step = step; to_at = at + (length a + 2); step_at = at + (length a + 2) + (length b + 1) };
      read =
          ap (written_of unit at) is.6
          ∙ rw (
            number_dots unit a from (b ++ 47 ∷ d) is.3,
            number_read unit a from is.3,
            first.one,
            first.before,
            first.after,
            number_read unit b to is.4,
            number_read unit d step is.5,
          ) refl;
      from = refl;
      to = refl;
      step = refl;
    }

values_read : (limits : Limits) (at : ℕ) (item : Written) → IsAllowed limits item.from item.to item.step → values_of limits at item ≡ Ok (range_of item.from item.to item.step)
unfolding values_of
values_read limits at item is =
    let some = is.some in
    rw (
      le-leb limits.least item.from is.beginning.least,
      le-leb item.from limits.greatest is.beginning.greatest,
      le-leb limits.least item.to is.end.least,
      le-leb item.to limits.greatest is.end.greatest,
      le-ltb item.to item.from is.ordered,
      ne_eqb item.step 0 (λ none. omega arith),
    ) refl

item_spelled : (limits : Limits) (at : ℕ) (text values : List ℕ) → IsItem limits text values → item_of limits at text ≡ Ok values
unfolding item_of
item_spelled limits at text values is =
    let w = form_read limits.unit at text is.form is.spelled in
    rw w.read (
    values_read limits at w.item (allowed_as limits _ _ _ w.item.from w.item.to w.item.step (sym w.from) (sym w.to) (sym w.step) is.allowed)
    ∙ ap Ok ((λ i. range_of (w.from i) (w.to i) (w.step i)) ∙ sym is.same)
    )

-- no item has a comma
form_commaless : (unit : Units) (text : List ℕ) (form : Form) → HasForm unit text form → All (λ b. is_comma b ≡ false) text
form_commaless unit text (Single n) is = no_comma unit text n is
form_commaless unit text (Range from to) is =
    subst (All (λ b. is_comma b ≡ false)) (sym is.4)
    (joined_free is_comma is.0 46 (46 ∷ is.1) (no_comma unit is.0 from is.2) refl (joined_free is_comma [] 46 is.1 (λ k d l. absurd (omega arith)) refl (no_comma unit is.1 to is.3)))
form_commaless unit text (Stepped from to step) is =
    subst (All (λ b. is_comma b ≡ false)) (sym is.6)
    (joined_free is_comma is.0 46 (46 ∷ (is.1 ++ 47 ∷ is.2)) (no_comma unit is.0 from is.3) refl
    (joined_free is_comma [] 46 (is.1 ++ 47 ∷ is.2) (λ k d l. absurd (omega arith)) refl
    (joined_free is_comma is.1 47 is.2 (no_comma unit is.1 to is.4) refl (no_comma unit is.2 step is.5))))

split_joined : (limits : Limits) (items : List (List ℕ × List ℕ)) → AreItems limits items → 1 ≤ length items → slice_split is_comma (join_with_byte 44 (map (λ item. item.0) items)) ≡ map (λ item. item.0) items
split_joined limits [] each some = absurd (omega arith)
split_joined limits (x ∷ []) each some = slice_split_none is_comma x.0 (form_commaless limits.unit x.0 each.0.form each.0.spelled)
split_joined limits (x ∷ y ∷ items) each some =
    slice_split_at is_comma x.0 44 (join_with_byte 44 (map (λ item. item.0) (y ∷ items))) (form_commaless limits.unit x.0 each.0.form each.0.spelled) refl
    ∙ ap (λ l. x.0 ∷ l) (split_joined limits (y ∷ items) each.1 (omega arith))

items_spelled : (limits : Limits) (at : ℕ) (items : List (List ℕ × List ℕ)) → AreItems limits items → items_of limits at (map (λ item. item.0) items) ≡ Ok (concat (map (λ item. item.1) items))
items_spelled limits at [] each = refl
items_spelled limits at (x ∷ items) each =
    rw (item_spelled limits at x.0 x.1 each.0, items_spelled limits (at + (length x.0 + 1)) items each.1) refl

pub list_spelled : (limits : Limits) (text values : List ℕ) → IsList limits text values → list_of limits text ≡ Ok values
unfolding list_of
list_spelled limits text values is =
    ap (λ t. items_of limits 0 (slice_split is_comma t)) is.texts ∙ ap (items_of limits 0) (split_joined limits is.items is.each is.some)
    ∙ items_spelled limits 0 is.items is.each ∙ ap Ok (sym is.joined)

-- the same of the result of a call
pub if_list : (limits : Limits) (text : List ℕ) (r : Result (List ℕ) ListFault) → IfOk r (λ values. list_of limits text ≡ Ok values) → IfOk r (IsList limits text)
if_list limits text (Ok values) h = list_from limits text values h
if_list limits text (Err found) h = tt

pub if_within : (limits : Limits) (text : List ℕ) (r : Result (List ℕ) ListFault) → IfOk r (λ values. list_of limits text ≡ Ok values) → IfOk r (All (IsWithin limits))
if_within limits text (Ok values) h = (list_within limits text values h).within
if_within limits text (Err found) h = tt

pub if_some : (limits : Limits) (text : List ℕ) (r : Result (List ℕ) ListFault) → IfOk r (λ values. list_of limits text ≡ Ok values) → IfOk r (λ values. 1 ≤ length values)
if_some limits text (Ok values) h = (list_within limits text values h).some
if_some limits text (Err found) h = tt

pub memory_from : (kind : ListFaultKind) → (kind ≢ Memory → ⊥) → kind ≡ Memory
memory_from NoItem h = absurd (h (λ e. cc))
memory_from (OutsideRange limits) h = absurd (h (λ e. cc))
memory_from EndsBelow h = absurd (h (λ e. cc))
memory_from NoStep h = absurd (h (λ e. cc))
memory_from Memory h = refl

pub accepted : (limits : Limits) (text : List ℕ) (r : Result (List ℕ) ListFault) → IfOk r (λ values. list_of limits text ≡ Ok values) → IfErr r (IsFaultOf (list_of limits text)) → (values : List ℕ) → IsList limits text values → IsOrMemory r values
accepted limits text (Ok found) h e values is = inl (let spelled = list_spelled limits text values is in cc)
accepted limits text (Err found) h e values is =
    let spelled = list_spelled limits text values is in
    inr (memory_from found.kind (λ other. let first = e.first other in cc))
