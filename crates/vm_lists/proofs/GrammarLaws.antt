-- What is read is a list of those values.
use Rattle.std.proofs.Common.{◌≡◌, ℕ, zero, suc, ◌+◌, ◌-◌, ◌*◌, ◌^◌, ◌<◌, ◌≤◌, ◌==◌, ◌&&◌, inl, inr, Bool, true, false, cond, not, nat_le, nat_lt, List, [], ◌∷◌, ◌++◌, length, drop, map, Some, None, Ok, Err, refl, ap, sym, subst, ◌∙◌, arith}
use Rattle.std.proofs.lemmas.Bool.{and_parts, leb-true, ltb-true, ltb-false, eqb-true}
use Rattle.std.proofs.lemmas.List.Splits.{length-slice_split, join_with_byte-slice_split}
use Rattle.std.proofs.lemmas.List.Sums.{AllPass-from_list_all, split_at_first, passes_at_first}
use Rattle.std.specs.Char.{is_ascii_digit}
use Rattle.std.specs.List.{list_all, concat, join_with_byte, slice_split, position_or_len, before_first, after_first}
use Rattle.std.specs.Option.{option_map, option_map_or}
use Rattle.vm_lists.specs.declared.bounds.Unit.{Unit as Units}
use Rattle.vm_lists.specs.declared.bounds.Unit.TheVariants.{Whole, Hundredths}
use Rattle.vm_lists.specs.declared.bounds.Limits.{Limits}
use Rattle.vm_lists.specs.declared.faults.ListFaultKind.TheVariants.{NoItem}
use Rattle.vm_lists.specs.declared.items.Written.{Written}
use Rattle.vm_lists.specs.Items.{begins_with_dots, around_dots, is_slash, one_of, range_written, number_written, written_of, is_within, fault, values_of, item_of}
use Rattle.vm_lists.specs.Lists.{◌>>=◌, is_comma, items_of, list_of}
use Rattle.vm_lists.specs.ListGrammar.{IsNumeral, AreDecimals, IsNumber, Form, Single, Range, Stepped, HasForm, from_of, to_of, step_of, IsAllowed, IsItem, AreItems, IsList}
use Rattle.vm_lists.specs.Numbers.{digits_in, hundredths_of, is_point, has, number_of}
use Rattle.vm_lists.specs.Ranges.{range_of}
use Rattle.vm_lists.proofs.Choices.{chosen, some_bound}
use Rattle.vm_lists.proofs.WithinLaws.{allowed}

some_is : (m n : ℕ) → Some m ≡ Some n → m ≡ n
some_is m n h = cc

numeral_from : (most : ℕ) (word : List ℕ) (n : ℕ) → digits_in most word ≡ Some n → IsNumeral most word n
unfolding digits_in
numeral_from most word n h =
    elim (chosen (nat_le 1 (length word) && nat_le (length word) most && list_all is_ascii_digit word) _ _ _ h) [
      | inl a ↦
          let parts = and_parts (nat_le 1 (length word) && nat_le (length word) most) (list_all is_ascii_digit word) a.0 in
          let sizes = and_parts (nat_le 1 (length word)) (nat_le (length word) most) parts.0 in
          record {
            some = leb-true 1 (length word) sizes.0;
            short = leb-true (length word) most sizes.1;
            decimal = AllPass-from_list_all is_ascii_digit word parts.1;
            value = some_is _ n a.1;
          }
      | inr b ↦ absurd (let none = b.1 in cc)
    ]

scaled : (len d h : ℕ) → 1 ≤ len → len ≤ 2 → cond (len == 1) (10 * d) d ≡ h → h ≡ d * 10 ^ (2 - len)
scaled zero d h some few is = absurd (omega arith)
scaled (suc zero) d h some few is = omega (arith, is)
scaled (suc (suc zero)) d h some few is = omega (arith, is)
scaled (suc (suc (suc n))) d h some few is = absurd (omega arith)

decimals_from : (word : List ℕ) (h : ℕ) → hundredths_of word ≡ Some h → AreDecimals word h
unfolding hundredths_of
decimals_from word h read =
    let d = some_bound (digits_in 2 word) _ h read in
    let is = numeral_from 2 word d.0 d.1 in
    (d.0, is, scaled (length word) d.0 h is.some is.short (some_is _ h d.2))

-- the text round the one byte that passes
pub around : (p : ℕ → Bool) (byte : ℕ) (text : List ℕ) → ((b : ℕ) → p b ≡ true → b ≡ byte) → has p text ≡ true → text ≡ before_first p text ++ byte ∷ after_first p text
around p byte text tells h =
    let inside = ltb-true (position_or_len p text) (length text) h in
    split_at_first p text 0 inside ∙ ap (λ b. before_first p text ++ b ∷ after_first p text) (tells _ (passes_at_first p text 0 inside))

number_from : (unit : Units) (word : List ℕ) (n : ℕ) → number_of unit word ≡ Some n → IsNumber unit word n
unfolding number_of
number_from Whole word n h = numeral_from 10 word n h
number_from Hundredths word n h =
    elim (chosen (has is_point word) _ _ _ h) [
      | inl a ↦
          let percent = some_bound (digits_in 10 (before_first is_point word)) _ n a.1 in
          let hundredths = some_bound (hundredths_of (after_first is_point word)) _ n percent.2 in
          inr (record {
            front = before_first is_point word;
            decimals = after_first is_point word;
            percent = percent.0;
            hundredths = hundredths.0;
            whole = around is_point 46 word (λ b. eqb-true b 46) a.0;
            before = numeral_from 10 (before_first is_point word) percent.0 percent.1;
            behind = decimals_from (after_first is_point word) hundredths.0 hundredths.1;
            sum = sym (some_is _ n hundredths.2);
          })
      | inr b ↦
          let percent = some_bound (digits_in 10 word) _ n b.1 in
          inl (percent.0, numeral_from 10 word percent.0 percent.1, sym (some_is _ n percent.2))
    ]

begins_is : (bs : List ℕ) → begins_with_dots bs ≡ true → bs ≡ 46 ∷ 46 ∷ drop 2 bs
begins_is [] h = absurd cc
begins_is (a ∷ []) h = absurd cc
begins_is (a ∷ b ∷ rest) h =
    let parts = and_parts (a == 46) (b == 46) h in
    (λ i. eqb-true a 46 parts.0 i ∷ eqb-true b 46 parts.1 i ∷ rest)

pub dots_from : (text : List ℕ) (parts : List ℕ × List ℕ) → around_dots text ≡ Some parts → text ≡ parts.0 ++ 46 ∷ 46 ∷ parts.1
dots_from [] parts h = absurd cc
dots_from (x ∷ rest) parts h =
    elim (chosen (begins_with_dots (x ∷ rest)) _ _ _ h) [
      | inl a ↦
          let found = a.1 in
          let same : ([], drop 1 rest) ≡ parts = cc in
          subst (λ p. (x ∷ rest) ≡ p.0 ++ 46 ∷ 46 ∷ p.1) same (begins_is (x ∷ rest) a.0)
      | inr b ↦ (elim (around_dots rest) as (λ o. around_dots rest ≡ o → option_map (λ parts. (x ∷ parts.0, parts.1)) o ≡ Some parts → (x ∷ rest) ≡ parts.0 ++ 46 ∷ 46 ∷ parts.1) [
        | Some inner ↦ λ is all.
            let same : (x ∷ inner.0, inner.1) ≡ parts = cc in
            subst (λ p. (x ∷ rest) ≡ p.0 ++ 46 ∷ 46 ∷ p.1) same (ap (λ l. x ∷ l) (dots_from rest inner is))
        | None ↦ λ is all. absurd cc
      ] refl b.1)
    ]

-- the form that is written
record IsWritten (unit : Units) (text : List ℕ) (item : Written) : Type 0 where
  form : Form
  spelled : HasForm unit text form
  from : item.from ≡ from_of form
  to : item.to ≡ to_of form
  step : item.step ≡ step_of unit form

written_as : (unit : Units) (text : List ℕ) (w item : Written) → Some w ≡ Some item → IsWritten unit text w → IsWritten unit text item
written_as unit text w item h is = let same : w ≡ item = cc in subst (IsWritten unit text) same is

number_form : (unit : Units) (at : ℕ) (text : List ℕ) (item : Written) → number_written unit at text ≡ Some item → IsWritten unit text item
unfolding number_written
number_form unit at text item h =
    let number = some_bound (number_of unit text) _ item h in
    written_as unit text (record { from = number.0; to = number.0; step = one_of unit; to_at = at; step_at = at }) item number.2
    (record { form = Single number.0; spelled = number_from unit text number.0 number.1; from = refl; to = refl; step = refl })

range_form : (unit : Units) (at : ℕ) (text front behind : List ℕ) (item : Written) → text ≡ front ++ 46 ∷ 46 ∷ behind → range_written unit at front behind ≡ Some item → IsWritten unit text item
unfolding range_written
range_form unit at text front behind item split h =
    let from = some_bound (number_of unit front) _ item h in
    let to_at = at + (length front + 2) in
    elim (chosen (has is_slash behind) _ _ _ from.2) [
      | inl named ↦
          let end = before_first is_slash behind in
          let steps = after_first is_slash behind in
          let to = some_bound (number_of unit end) _ item named.1 in
          let step = some_bound (number_of unit steps) _ item to.2 in
          let whole : text ≡ front ++ 46 ∷ 46 ∷ (end ++ 47 ∷ steps) = split ∙ ap (λ l. front ++ 46 ∷ 46 ∷ l) (around is_slash 47 behind (λ b. eqb-true b 47) named.0) in
          written_as unit text (record { from = from.0; to = to.0; step = step.0; to_at = to_at; step_at = to_at + (length end + 1) }) item step.2
          (record {
            form = Stepped from.0 to.0 step.0;
            spelled = (front, end, steps, number_from unit front from.0 from.1, number_from unit end to.0 to.1, number_from unit steps step.0 step.1, whole);
            from = refl;
            to = refl;
            step = refl;
          })
      | inr plain ↦
          let to = some_bound (number_of unit behind) _ item plain.1 in
          written_as unit text (record { from = from.0; to = to.0; step = one_of unit; to_at = to_at; step_at = at }) item to.2
          (record {
            form = Range from.0 to.0;
            spelled = (front, behind, number_from unit front from.0 from.1, number_from unit behind to.0 to.1, split);
            from = refl;
            to = refl;
            step = refl;
          })
    ]

item_form : (unit : Units) (at : ℕ) (text : List ℕ) (item : Written) → written_of unit at text ≡ Some item → IsWritten unit text item
unfolding written_of
item_form unit at text item h =
    elim (around_dots text) as (λ o. around_dots text ≡ o → option_map_or (λ parts. range_written unit at parts.0 parts.1) o (number_written unit at text) ≡ Some item → IsWritten unit text item) [
      | Some parts ↦ λ is read. range_form unit at text parts.0 parts.1 item (dots_from text parts is) read
      | None ↦ λ is read. number_form unit at text item read
    ] refl h

-- its values
record AreRead (limits : Limits) (item : Written) (values : List ℕ) : Type 0 where
  allowed : IsAllowed limits item.from item.to item.step
  same : values ≡ range_of item.from item.to item.step

positive : (n : ℕ) → (n == 0) ≡ false → 0 < n
positive zero h = absurd cc
positive (suc n) h = omega arith

values_from : (limits : Limits) (at : ℕ) (item : Written) (values : List ℕ) → values_of limits at item ≡ Ok values → AreRead limits item values
unfolding values_of
values_from limits at item values h =
    elim (chosen (not (is_within limits item.from)) _ _ _ h) [
      | inl from ↦ absurd (let no = from.1 in cc)
      | inr a ↦ elim (chosen (not (is_within limits item.to)) _ _ _ a.1) [
        | inl to ↦ absurd (let no = to.1 in cc)
        | inr b ↦ elim (chosen (nat_lt item.to item.from) _ _ _ b.1) [
          | inl below ↦ absurd (let no = below.1 in cc)
          | inr d ↦ elim (chosen (item.step == 0) _ _ _ d.1) [
            | inl step ↦ absurd (let no = step.1 in cc)
            | inr good ↦
                let read = good.1 in
                let same : values ≡ range_of item.from item.to item.step = cc in
                record {
                  allowed = record {
                    beginning = allowed limits item.from a.0;
                    end = allowed limits item.to b.0;
                    ordered = ltb-false item.to item.from d.0;
                    some = positive item.step good.0;
                  };
                  same = same;
                }
          ]
        ]
      ]
    ]

pub allowed_as : (limits : Limits) (a b d x y z : ℕ) → a ≡ x → b ≡ y → d ≡ z → IsAllowed limits a b d → IsAllowed limits x y z
allowed_as limits a b d x y z ax by dz is =
    subst (λ n. IsAllowed limits x y n) dz (subst (λ n. IsAllowed limits x n d) by (subst (λ n. IsAllowed limits n b d) ax is))

item_read : (limits : Limits) (text values : List ℕ) (item : Written) → IsWritten limits.unit text item → AreRead limits item values → IsItem limits text values
item_read limits text values item w r = record {
  form = w.form;
  spelled = w.spelled;
  allowed = allowed_as limits item.from item.to item.step _ _ _ w.from w.to w.step r.allowed;
  same = r.same ∙ (λ i. range_of (w.from i) (w.to i) (w.step i));
}

item_from : (limits : Limits) (at : ℕ) (text values : List ℕ) → item_of limits at text ≡ Ok values → IsItem limits text values
unfolding item_of
item_from limits at text values h =
    elim (written_of limits.unit at text) as (λ o. written_of limits.unit at text ≡ o → option_map_or (values_of limits at) o (fault at NoItem) ≡ Ok values → IsItem limits text values) [
      | Some item ↦ λ is read. item_read limits text values item (item_form limits.unit at text item is) (values_from limits at item values read)
      | None ↦ λ is read. absurd cc
    ] refl h

record AreItemsOf (limits : Limits) (parts : List (List ℕ)) (values : List ℕ) : Type 0 where
  items : List (List ℕ × List ℕ)
  each : AreItems limits items
  texts : parts ≡ map (λ item. item.0) items
  joined : values ≡ concat (map (λ item. item.1) items)

items_from : (limits : Limits) (at : ℕ) (parts : List (List ℕ)) (values : List ℕ) → items_of limits at parts ≡ Ok values → AreItemsOf limits parts values
items_from limits at [] values h =
    let same : values ≡ [] = cc in
    record { items = []; each = tt; texts = refl; joined = same }
items_from limits at (part ∷ parts) values h =
    let next = at + (length part + 1) in
    elim (item_of limits at part) as (λ r. item_of limits at part ≡ r → (r >>= (λ values. items_of limits next parts >>= (λ more. Ok (values ++ more)))) ≡ Ok values → AreItemsOf limits (part ∷ parts) values) [
      | Ok first ↦ λ is read. (elim (items_of limits next parts) as (λ r. items_of limits next parts ≡ r → (r >>= (λ more. Ok (first ++ more))) ≡ Ok values → AreItemsOf limits (part ∷ parts) values) [
        | Ok more ↦ λ rest all.
            let others = items_from limits next parts more rest in
            let same : values ≡ first ++ more = cc in
            record {
              items = (part, first) ∷ others.items;
              each = (item_from limits at part first is, others.each);
              texts = ap (λ l. part ∷ l) others.texts;
              joined = same ∙ ap (λ l. first ++ l) others.joined;
            }
        | Err found ↦ λ rest all. absurd cc
      ] refl read)
      | Err found ↦ λ is read. absurd cc
    ] refl h

length_texts : (items : List (List ℕ × List ℕ)) → length (map (λ item. item.0) items) ≡ length items
length_texts [] = refl
length_texts (item ∷ items) = omega (arith, length_texts items)

pub list_from : (limits : Limits) (text values : List ℕ) → list_of limits text ≡ Ok values → IsList limits text values
unfolding list_of
list_from limits text values h =
    let all = items_from limits 0 (slice_split is_comma text) values h in
    record {
      items = all.items;
      some = omega (arith, ap length all.texts, length_texts all.items, length-slice_split is_comma text);
      each = all.each;
      texts = sym (join_with_byte-slice_split 44 text) ∙ ap (join_with_byte 44) all.texts;
      joined = all.joined;
    }
