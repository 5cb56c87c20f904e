-- Fields of the table that need no quotes.
use Rattle.std.proofs.Common.{◌≡◌, ℕ, zero, suc, ◌≤◌, ◌/◌, ◌%◌, ◌==◌, inl, inr, true, false, Option, Some, None, List, [], ◌∷◌, length, refl, ap, arith}
use Rattle.std.proofs.lemmas.Bool.{and_from, and_parts, cases_Bool}
use Rattle.std.proofs.lemmas.Bool.Decides.{nat_tests}
use Rattle.std.specs.Fmt.{decimal, digit_glyph, digits, digits_onto}
use Rattle.std.specs.List.{list_all}
use Rattle.vm_plan.specs.State.{state_word}
use Rattle.vm_plan.specs.declared.state.State.{State}
use Rattle.vm_plan.specs.declared.state.State.TheVariants.{High, Soft, Hard, Low}
use Rattle.vm_samples.specs.Names.{is_name, is_name_byte}
use Rattle.vm_steer.specs.declared.fate.Fate.{Fate}
use Rattle.vm_steer.specs.declared.fate.Fate.TheVariants.{Left, Steered}
use Rattle.vm_steer.specs.declared.fate.LeftDomain.{LeftDomain}
use Rattle.vm_steer.specs.declared.fate.SteeredDomain.{SteeredDomain}
use Rattle.vm_steer.specs.declared.why.Why.{Why}
use Rattle.vm_steer.specs.declared.why.Why.TheVariants.{Name, Twice, Policy, NotRunning, NoBalloon, NoStatistics, Size}
use Rattle.vm_steer.specs.Entries.{EntryView, ToldView}
use Rattle.vm_steer.specs.Laws.{is_bare, AreBare, IsBare}
use Rattle.vm_steer.specs.Table.{fate_fields, fields_of, left_fields, order_field, row_fields, target_fields}
use Rattle.vm_steer.specs.Text.{printed}
use Rattle.vm_steer.specs.Whys.{words_of}

-- ---- numbers

bare_above : (byte : ℕ) → 45 ≤ byte → is_bare byte ≡ true
bare_above byte least = grind (arith, nat_tests)

bare_digit : (digit : ℕ) → is_bare (digit_glyph false digit) ≡ true
bare_digit digit = grind (arith, nat_tests, bare_above)

bare_onto : (count number : ℕ) (digits : List ℕ) → IsBare digits → IsBare (digits_onto count 10 false number digits)
bare_onto zero number digits bare = bare
bare_onto (suc count) number digits bare =
    let one : IsBare (digit_glyph false (number % 10) ∷ digits) = and_from (is_bare (digit_glyph false (number % 10))) (list_all is_bare digits) (bare_digit (number % 10)) bare in
    elim (cases_Bool (number / 10 == 0)) [
      | inl last ↦ rw last one
      | inr more ↦ rw more (bare_onto count (number / 10) (digit_glyph false (number % 10) ∷ digits) one)
    ]

bare_number : (number : ℕ) → IsBare (decimal number)
unfolding digits
bare_number number = bare_onto 64 number [] refl

bare_order : (order : Option ℕ) → IsBare (order_field order)
bare_order None = refl
bare_order (Some kib) = bare_number kib

-- ---- words

bare_state : (state : State) → IsBare (state_word state)
bare_state High = refl
bare_state Soft = refl
bare_state Hard = refl
bare_state Low = refl

bare_why : (why : Why) → IsBare (words_of why)
bare_why Name = refl
bare_why Twice = refl
bare_why Policy = refl
bare_why NotRunning = refl
bare_why NoBalloon = refl
bare_why NoStatistics = refl
bare_why Size = refl

-- ---- names

bare_byte : (byte : ℕ) → is_name_byte byte ≡ true → is_bare byte ≡ true
bare_byte byte named = grind (arith, nat_tests, bare_above)

bare_bytes : (name : List ℕ) → list_all is_name_byte name ≡ true → IsBare name
bare_bytes [] named = refl
bare_bytes (byte ∷ name) named =
    let both = and_parts (is_name_byte byte) (list_all is_name_byte name) named in
    and_from (is_bare byte) (list_all is_bare name) (bare_byte byte both.0) (bare_bytes name both.1)

bare_name : (name : List ℕ) → IsBare (printed name)
bare_name name = elim (cases_Bool (is_name name)) [
  | inl named ↦ rw named (bare_bytes name (and_parts _ (list_all is_name_byte name) named).1)
  | inr not ↦ rw not refl
]

-- ---- records

bare_left : (left : LeftDomain) → AreBare (left_fields left)
bare_left left = (bare_number left.held, (bare_why left.why, (refl, (refl, (refl, (refl, (refl, (refl, (refl, (refl, tt))))))))))

bare_row : (s : SteeredDomain) → AreBare (row_fields s)
bare_row s = (bare_number s.demand, (bare_number s.min, (bare_number s.cap, (bare_number s.shares, (bare_order s.order, tt)))))

bare_target : (s : SteeredDomain) → AreBare (target_fields s)
bare_target s = (bare_number s.remembered.target, (bare_number s.used, (bare_number s.active, bare_row s)))

bare_fate : (fate : Fate) → AreBare (fate_fields fate)
bare_fate (Left left) = bare_left left
bare_fate (Steered s) = (bare_number s.remembered.held, (refl, bare_target s))

pub bare_fields : (number : ℕ) (told : ToldView) (e : EntryView) → AreBare (fields_of number told e)
bare_fields number told e = (bare_number number, (bare_state told.state, (bare_number told.free, (bare_name e.name, bare_fate e.fate))))

number_of_fate : (fate : Fate) → length (fate_fields fate) ≡ 10
number_of_fate (Left left) = refl
number_of_fate (Steered s) = refl

pub number_of_fields : (number : ℕ) (told : ToldView) (e : EntryView) → length (fields_of number told e) ≡ 14
number_of_fields number told e = ap (λ (n : ℕ). suc (suc (suc (suc n)))) (number_of_fate e.fate)
