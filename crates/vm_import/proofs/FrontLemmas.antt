-- The first bytes of a line decide what it means.
use Rattle.std.proofs.Common.{◌≡◌, ◌∙◌, ℕ, ◌+◌, ◌-◌, ◌<◌, ◌≤◌, ◌⊎◌, inl, inr, Bool, true, false, ◌&&◌, ◌||◌, leb, ltb, eqb, cond, List, [], ◌++◌, length, take, drop, codes, Option, Some, None, Result, Ok, Err, refl, sym, ap, arith}
use Rattle.std.proofs.lemmas.Bool.{cases_lt, lt-leb, lt-ltb, ne_eqb}
use Rattle.std.proofs.lemmas.List.{append-nil, drop-take, length-take, length-take-le, take-append-le, take-take, take_all}
use Rattle.std.specs.List.{after_first, before_first, position_or_len}
use Rattle.std.specs.Option.{ok_or}
use Rattle.vm_import.specs.declared.access.Access.{Access}
use Rattle.vm_import.specs.declared.access.AccessKind.{AccessKind}
use Rattle.vm_import.specs.declared.faults.LineFault.{LineFault}
use Rattle.vm_import.specs.declared.faults.LineFault.TheVariants.{AnotherProcess, NoAddress}
use Rattle.vm_import.specs.Lines.{◌>>=◌, access_of, access_with, address_of, begins_with, digits_behind, has_comma, is_another, is_comma, is_marked, is_no_digit, kind_of, line_of, process_of, size_of}
use Rattle.vm_import.specs.Logs.{is_line_end}
use Rattle.vm_import.specs.Numerals.{numeral_of}
use Rattle.vm_import.specs.BlockSteps.{first_line}
use Rattle.vm_import.proofs.FirstLineLemmas.{before_take, length-before}
use Rattle.vm_import.proofs.NumeralLemmas.{too_many}

same_either : {A : Type 0} {x : A} (b : Bool) → cond b x x ≡ x
same_either true = refl
same_either false = refl

-- what a line begins with
front_begins : (line front : List ℕ) (n : ℕ) → length front ≤ n → begins_with (take n line) front ≡ begins_with line front
front_begins line front n short = rw (take-take (length front) n line short) refl

pub kind_of-front : (line : List ℕ) (n : ℕ) → 3 ≤ n → kind_of (take n line) ≡ kind_of line
unfolding kind_of
kind_of-front line n long =
    rw (front_begins line (codes "I  ") n long, front_begins line (codes " L ") n long, front_begins line (codes " S ") n long, front_begins line (codes " M ") n long) refl

pub is_marked-front : (line : List ℕ) (n : ℕ) → 2 ≤ n → is_marked (take n line) ≡ is_marked line
is_marked-front line n long =
    rw (front_begins line (codes "==") n long, front_begins line (codes "--") n long, front_begins line (codes "**") n long) refl

-- a long word is no numeral, and neither is a long front of it
numeral_of-front : (radix most : ℕ) (word : List ℕ) (n : ℕ) → most < n → numeral_of radix most (take n word) ≡ numeral_of radix most word
numeral_of-front radix most word n long =
    elim (cases_lt n (length word)) [
      | inl inside ↦
          let exact : length (take n word) ≡ n = length-take-le n word (omega arith) in
          too_many radix most (take n word) (omega arith) ∙ sym (too_many radix most word (omega arith))
      | inr short ↦ ap (numeral_of radix most) (take_all n word short)
    ]

size_of-front : (word : List ℕ) (n : ℕ) → 4 < n → size_of (take n word) ≡ size_of word
unfolding size_of
size_of-front word n long = rw (numeral_of-front 10 4 word n long) refl

-- the rest of an access, behind its kind
abbrev rest_of : List ℕ → AccessKind → Result Access LineFault
rest_of text kind = address_of text >>= (λ address. size_of (after_first is_comma text) >>= (λ size. access_with kind address size))

no_address : (text : List ℕ) → 16 < length (before_first is_comma text) → address_of text ≡ Err NoAddress
unfolding address_of
no_address text long = rw (too_many 16 16 (before_first is_comma text) long) (same_either (has_comma text))

address_of-same : (s t : List ℕ) → before_first is_comma s ≡ before_first is_comma t → has_comma s ≡ has_comma t → address_of s ≡ address_of t
unfolding address_of
address_of-same s t words commas = λ i. cond (commas i) (ok_or (numeral_of 16 16 (words i)) NoAddress) (Err NoAddress)

below_front : (k n : ℕ) (text : List ℕ) → k < n → ltb k (length (take n text)) ≡ ltb k (length text)
below_front k n text small =
    elim (cases_lt n (length text)) [
      | inl inside ↦
          let exact : length (take n text) ≡ n = length-take-le n text (omega arith) in
          lt-ltb k (length (take n text)) (omega arith) ∙ sym (lt-ltb k (length text) (omega arith))
      | inr short ↦ ap (λ l. ltb k (length l)) (take_all n text short)
    ]

long_front : (word : List ℕ) (k n : ℕ) → k < n → k < length word → k < length (take n word)
long_front word k n small long =
    elim (cases_lt n (length word)) [
      | inl inside ↦ omega (arith, length-take-le n word (omega arith))
      | inr short ↦ rw (take_all n word short) long
    ]

rest_of-front : (text : List ℕ) (n : ℕ) → 22 ≤ n → (kind : AccessKind) → rest_of (take n text) kind ≡ rest_of text kind
rest_of-front text n big kind =
    let word = before_first is_comma text in
    let front : before_first is_comma (take n text) ≡ take n word = before_take is_comma n text in
    elim (cases_lt 16 (length word)) [
      | inl long ↦
          let longer : 16 < length (before_first is_comma (take n text)) = rw front (long_front word 16 n (omega arith) long) in
          rw (no_address text long, no_address (take n text) longer) refl
      | inr short ↦
          let words : before_first is_comma (take n text) ≡ word = front ∙ take_all n word (omega arith) in
          let commas : has_comma (take n text) ≡ has_comma text =
          ap (λ w. ltb (length w) (length (take n text))) words ∙ below_front (length word) n text (omega arith) in
          let at = position_or_len is_comma text in
          let here : length word ≡ at = length-before is_comma text in
          let same : position_or_len is_comma (take n text) ≡ at = sym (length-before is_comma (take n text)) ∙ ap length words ∙ here in
          let all : n ≡ (at + 1) + (n - (at + 1)) = omega arith in
          let behind : after_first is_comma (take n text) ≡ take (n - (at + 1)) (after_first is_comma text) =
          ap (λ k. drop (k + 1) (take n text)) same ∙ ap (λ k. drop (at + 1) (take k text)) all ∙ drop-take (at + 1) (n - (at + 1)) text in
          let sizes : size_of (after_first is_comma (take n text)) ≡ size_of (after_first is_comma text) =
          ap size_of behind ∙ size_of-front (after_first is_comma text) (n - (at + 1)) (omega arith) in
          let addresses = address_of-same (take n text) text words commas in
          λ i. addresses i >>= (λ address. sizes i >>= (λ size. access_with kind address size))
    ]

bind_same : {A B : Type 0} (r : Result A LineFault) (f g : A → Result B LineFault) → ((x : A) → f x ≡ g x) → (r >>= f) ≡ (r >>= g)
bind_same (Ok x) f g same = same x
bind_same (Err fault) f g same = refl

drop_front : (line : List ℕ) (k n : ℕ) → k ≤ n → drop k (take n line) ≡ take (n - k) (drop k line)
drop_front line k n within =
    let all : n ≡ k + (n - k) = omega arith in
    ap (λ m. drop k (take m line)) all ∙ drop-take k (n - k) line

access_of-front : (line : List ℕ) (n : ℕ) → 25 ≤ n → access_of (take n line) ≡ access_of line
unfolding access_of
access_of-front line n big =
    let rest : drop 3 (take n line) ≡ take (n - 3) (drop 3 line) = drop_front line 3 n (omega arith) in
    (λ i. kind_of-front line n (omega arith) i >>= rest_of (rest i))
    ∙ bind_same (kind_of line) (rest_of (take (n - 3) (drop 3 line))) (rest_of (drop 3 line)) (rest_of-front (drop 3 line) (n - 3) (omega arith))

and_false : (a b : Bool) → (a && (b && false)) ≡ false
and_false true true = refl
and_false true false = refl
and_false false b = refl

no_process : (line : List ℕ) → 10 < length (digits_behind line) → process_of line ≡ None
unfolding process_of
no_process line long =
    rw (lt-leb (length (digits_behind line)) 10 long, and_false (is_marked line) (leb 1 (length (digits_behind line)))) refl

process_of-front : (line : List ℕ) (n : ℕ) → 14 ≤ n → process_of (take n line) ≡ process_of line
unfolding process_of
process_of-front line n big =
    let digits = digits_behind line in
    let text : drop 2 (take n line) ≡ take (n - 2) (drop 2 line) = drop_front line 2 n (omega arith) in
    let front : digits_behind (take n line) ≡ take (n - 2) digits = ap (before_first is_no_digit) text ∙ before_take is_no_digit (n - 2) (drop 2 line) in
    elim (cases_lt 10 (length digits)) [
      | inl long ↦
          let longer : 10 < length (digits_behind (take n line)) = rw front (long_front digits 10 (n - 2) (omega arith) long) in
          no_process (take n line) longer ∙ sym (no_process line long)
      | inr short ↦
          let same : digits_behind (take n line) ≡ digits = front ∙ take_all (n - 2) digits (omega arith) in
          let marks = is_marked-front line n (omega arith) in
          let mark : take 2 (take n line) ≡ take 2 line = take-take 2 n line (omega arith) in
          let small : length (take 2 line) ≤ 2 = rw (length-take 2 line) (omega arith) in
          let behind : drop (length digits) (drop 2 (take n line)) ≡ take (n - 2 - length digits) (drop (length digits) (drop 2 line)) =
          ap (drop (length digits)) text ∙ drop_front (drop 2 line) (length digits) (n - 2) (omega arith) in
          let again : begins_with (drop (length (digits_behind (take n line))) (drop 2 (take n line))) (take 2 (take n line)) ≡ begins_with (drop (length digits) (drop 2 line)) (take 2 line) =
          (λ i. begins_with (drop (length (same i)) (drop 2 (take n line))) (mark i))
          ∙ ap (λ l. begins_with l (take 2 line)) behind
          ∙ front_begins (drop (length digits) (drop 2 line)) (take 2 line) (n - 2 - length digits) (omega arith) in
          λ i. cond (marks i && (leb 1 (length (same i)) && (leb (length (same i)) 10 && again i))) (Some (same i)) None
    ]

empty_front : (line : List ℕ) (n : ℕ) → 1 ≤ n → eqb (length (take n line)) 0 ≡ eqb (length line) 0
empty_front line n some =
    elim (cases_lt 0 (length line)) [
      | inl inside ↦
          let longer : 0 < length (take n line) = long_front line 0 n some inside in
          ne_eqb _ 0 (λ none. absurd (omega arith)) ∙ sym (ne_eqb (length line) 0 (λ none. absurd (omega arith)))
      | inr none ↦ ap (λ l. eqb (length l) 0) (take_all n line (omega arith))
    ]

line_of-front : (process : Option (List ℕ)) (line : List ℕ) (n : ℕ) → 25 ≤ n → line_of process (take n line) ≡ line_of process line
unfolding line_of
line_of-front process line n big =
    let named = process_of-front line n (omega arith) in
    let none = empty_front line n (omega arith) in
    let marks = is_marked-front line n (omega arith) in
    let accesses = access_of-front line n big in
    λ i. cond (is_another process (named i)) (Err AnotherProcess) (cond (none i || marks i) (Ok None) (accesses i >>= (λ access. Ok (Some access))))

-- So much of the first line as is looked at, of the bytes at hand, is enough.
first_front : (kept rest : List ℕ) → (32 ≤ length kept) ⊎ (rest ≡ []) → first_line kept ≡ take 32 (before_first is_line_end (kept ++ rest))
first_front kept rest enough =
    let whole : take 32 kept ≡ take 32 (kept ++ rest) = elim enough [
      | inl long ↦ sym (take-append-le 32 kept rest long)
      | inr none ↦ ap (take 32) (sym (ap (λ l. kept ++ l) none ∙ append-nil kept))
    ] in
    ap (before_first is_line_end) whole ∙ before_take is_line_end 32 (kept ++ rest)

pub line_of-first : (process : Option (List ℕ)) (kept rest : List ℕ) → (32 ≤ length kept) ⊎ (rest ≡ [])
    → line_of process (first_line kept) ≡ line_of process (before_first is_line_end (kept ++ rest))
line_of-first process kept rest enough =
    ap (line_of process) (first_front kept rest enough) ∙ line_of-front process (before_first is_line_end (kept ++ rest)) 32 (omega arith)

pub process_of-first : (kept rest : List ℕ) → (32 ≤ length kept) ⊎ (rest ≡ [])
    → process_of (first_line kept) ≡ process_of (before_first is_line_end (kept ++ rest))
process_of-first kept rest enough =
    ap process_of (first_front kept rest enough) ∙ process_of-front (before_first is_line_end (kept ++ rest)) 32 (omega arith)
