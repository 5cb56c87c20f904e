-- An access that is read in one pass.
use Rattle.std.proofs.Common.{◌≡◌, ◌∙◌, ℕ, ◌+◌, ◌-◌, ◌<◌, ◌≤◌, inl, inr, true, false, cond, List, ◌∷◌, ◌++◌, length, take, drop, get_or, codes, Option, Some, None, Result, Ok, Err, refl, sym, subst, ap, arith}
use Rattle.std.proofs.lemmas.Bool.{cases_Bool, cases_lt, eq-eqb, le-leb, lt-ltb, ne_eqb}
use Rattle.std.proofs.lemmas.List.{drop-drop, drop-take, get_or-drop, get_or-take, length-drop, length-take-le, take-append-drop, take-take}
use Rattle.std.proofs.lemmas.List.Sums.{position_or_len_is}
use Rattle.std.proofs.lemmas.Slice.Eq.{bytes_eq-Decides}
use Rattle.std.specs.Char.{digit_value}
use Rattle.std.specs.List.{after_first, before_first, position_or_len}
use Rattle.std.specs.Option.{ok_or}
use Rattle.std.specs.Result.{result_ok}
use Rattle.std.specs.Str.Parse.{digits_value}
use Rattle.vm_import.specs.declared.access.Access.{Access}
use Rattle.vm_import.specs.declared.access.AccessKind.{AccessKind}
use Rattle.vm_import.specs.declared.faults.LineFault.TheVariants.{NoAddress}
use Rattle.vm_import.specs.Accesses.{IsAccess}
use Rattle.vm_import.specs.Lines.{access_of, access_with, address_of, begins_with, has_comma, is_another, is_comma, is_marked, kind_of, line_of, process_of, size_of}
use Rattle.vm_import.specs.Logs.{is_line_end}
use Rattle.vm_import.specs.Numerals.{IsInFront, numeral_of}
use Rattle.vm_import.specs.Plain.{IsAccessLine}
use Rattle.vm_import.proofs.FirstLineLemmas.{length-before}
use Rattle.vm_import.proofs.FrontLemmas.{is_marked-front, kind_of-front}
use Rattle.vm_import.proofs.NumeralLemmas.{digit_below, front_numeral}

-- what the kind of a line tells of its first bytes
record IsOfKind (line : List ℕ) : Type 0 where
  long : 3 ≤ length line
  unmarked : is_marked line ≡ false
  within : (k : ℕ) → k < 3 → is_line_end (get_or line k 0) ≡ false

begun : (line front : List ℕ) → begins_with line front ≡ true → line ≡ front ++ drop (length front) line
begun line front begins =
    let same : take (length front) line ≡ front = (bytes_eq-Decides (take (length front) line) front).0 begins in
    sym (take-append-drop (length front) line) ∙ ap (λ l. l ++ drop (length front) line) same

begun_with : (front rest line : List ℕ) → IsOfKind (front ++ rest) → line ≡ front ++ rest → IsOfKind line
begun_with front rest line of_kind is = subst IsOfKind (sym is) of_kind

of_bytes : (a b c : ℕ) (rest : List ℕ) → is_marked (a ∷ b ∷ c ∷ rest) ≡ false → is_line_end a ≡ false → is_line_end b ≡ false → is_line_end c ≡ false
    → IsOfKind (a ∷ b ∷ c ∷ rest)
of_bytes a b c rest unmarked first second third = record {
  long = omega arith;
  unmarked = unmarked;
  within = λ k below. elim (cases_lt k 1) [
    | inl one ↦ let at : k ≡ 0 = omega arith in rw at first
    | inr more ↦ elim (cases_lt k 2) [
      | inl two ↦ let at : k ≡ 1 = omega arith in rw at second
      | inr three ↦ let at : k ≡ 2 = omega arith in rw at third
    ]
  ];
}

kind_facts : (line : List ℕ) (kind : AccessKind) → kind_of line ≡ Ok kind → IsOfKind line
unfolding kind_of
kind_facts line kind is =
    elim (cases_Bool (begins_with line (codes "I  "))) [
      | inl begins ↦ begun_with (codes "I  ") (drop 3 line) line (of_bytes 73 32 32 (drop 3 line) refl refl refl refl) (begun line (codes "I  ") begins)
      | inr fetch ↦ elim (cases_Bool (begins_with line (codes " L "))) [
        | inl begins ↦ begun_with (codes " L ") (drop 3 line) line (of_bytes 32 76 32 (drop 3 line) refl refl refl refl) (begun line (codes " L ") begins)
        | inr load ↦ elim (cases_Bool (begins_with line (codes " S "))) [
          | inl begins ↦ begun_with (codes " S ") (drop 3 line) line (of_bytes 32 83 32 (drop 3 line) refl refl refl refl) (begun line (codes " S ") begins)
          | inr store ↦ elim (cases_Bool (begins_with line (codes " M "))) [
            | inl begins ↦ begun_with (codes " M ") (drop 3 line) line (of_bytes 32 77 32 (drop 3 line) refl refl refl refl) (begun line (codes " M ") begins)
            | inr modify ↦ absurd (let none = rw (fetch, load, store, modify) at is in cc)
          ]
        ]
      ]
    ]

-- no digit ends a line, and none is a comma
digit_ends : (byte radix : ℕ) → radix ≤ 16 → digit_value byte < radix → is_line_end byte ≡ false
digit_ends byte radix few small =
    ne_eqb byte 10 (λ same. absurd (let value : digit_value byte ≡ 36 = ap digit_value same in omega arith))

digit_no_comma : (byte radix : ℕ) → radix ≤ 16 → digit_value byte < radix → is_comma byte ≡ false
digit_no_comma byte radix few small =
    ne_eqb byte 44 (λ same. absurd (let value : digit_value byte ≡ 36 = ap digit_value same in omega arith))

-- each of the digits in front of a part of a text
digit_at : (radix most : ℕ) (text : List ℕ) (from value len k : ℕ) → IsInFront radix most (drop from text) value len → from ≤ k → k < from + len
    → digit_value (get_or text k 0) < radix
digit_at radix most text from value len k front low high =
    let within : k - from < len = omega arith in
    let exact : length (take len (drop from text)) ≡ len = length-take-le len (drop from text) front.within in
    let small = digit_below radix (take len (drop from text)) (k - from) front.digits (omega arith) in
    let at : from + (k - from) ≡ k = omega arith in
    let place : get_or (take len (drop from text)) (k - from) 0 ≡ get_or text k 0 =
    get_or-take len (drop from text) (k - from) 0 within ∙ get_or-drop from text (k - from) 0 ∙ ap (λ n. get_or text n 0) at in
    rw place at small

-- an access, up to its line's end, of which the parts were found in a text
record HasParts (text : List ℕ) (kind : AccessKind) (address alen size slen : ℕ) : Type 0 where
  named : kind_of text ≡ Ok kind
  front : IsInFront 16 16 (drop 3 text) address alen
  some : 1 ≤ alen
  comma : get_or text (3 + alen) 0 ≡ 44
  behind : IsInFront 10 4 (drop (3 + alen + 1) text) size slen
  ends : get_or text (3 + alen + 1 + slen) 0 ≡ 10
  inside : 3 + alen + 1 + slen < length text
  least : 1 ≤ size
  most : size ≤ 1024

no_end_before : (text : List ℕ) (kind : AccessKind) (address alen size slen k : ℕ) → HasParts text kind address alen size slen
    → k < 3 + alen + 1 + slen → is_line_end (get_or text k 0) ≡ false
no_end_before text kind address alen size slen k parts below =
    elim (cases_lt k 3) [
      | inl first ↦ (kind_facts text kind parts.named).within k first
      | inr behind_kind ↦ elim (cases_lt k (3 + alen)) [
        | inl digit ↦ digit_ends (get_or text k 0) 16 (omega arith) (digit_at 16 16 text 3 address alen k parts.front behind_kind digit)
        | inr behind_digits ↦ elim (cases_lt k (3 + alen + 1)) [
          | inl here ↦ let at : k ≡ 3 + alen = omega arith in rw (at, parts.comma) refl
          | inr behind_comma ↦ digit_ends (get_or text k 0) 10 (omega arith) (digit_at 10 4 text (3 + alen + 1) size slen k parts.behind behind_comma below)
        ]
      ]
    ]

end_at : (text : List ℕ) (kind : AccessKind) (address alen size slen : ℕ) → HasParts text kind address alen size slen
    → position_or_len is_line_end text ≡ 3 + alen + 1 + slen
end_at text kind address alen size slen parts =
    let inside = parts.inside in
    position_or_len_is is_line_end text (3 + alen + 1 + slen) 0 (omega arith)
    (λ k below. no_end_before text kind address alen size slen k parts below)
    (λ _. eq-eqb (get_or text (3 + alen + 1 + slen) 0) 10 parts.ends)

-- what is behind the kind in the line
abbrev middle : List ℕ → ℕ → ℕ → List ℕ
middle text alen slen = take (alen + 1 + slen) (drop 3 text)

comma_at : (text : List ℕ) (kind : AccessKind) (address alen size slen : ℕ) → HasParts text kind address alen size slen
    → position_or_len is_comma (middle text alen slen) ≡ alen
comma_at text kind address alen size slen parts =
    let inside = parts.inside in
    let exact : length (middle text alen slen) ≡ alen + 1 + slen = length-take-le (alen + 1 + slen) (drop 3 text) (omega (arith, length-drop 3 text)) in
    let at : (k : ℕ) → k < alen + 1 + slen → get_or (middle text alen slen) k 0 ≡ get_or text (3 + k) 0 =
    λ k below. get_or-take (alen + 1 + slen) (drop 3 text) k 0 below ∙ get_or-drop 3 text k 0 in
    position_or_len_is is_comma (middle text alen slen) alen 0 (omega arith)
    (λ k below. rw (at k (omega arith)) (digit_no_comma (get_or text (3 + k) 0) 16 (omega arith) (digit_at 16 16 text 3 address alen (3 + k) parts.front (omega arith) (omega arith))))
    (λ _. rw (at alen (omega arith), parts.comma) refl)

address_at : (text : List ℕ) (kind : AccessKind) (address alen size slen : ℕ) → HasParts text kind address alen size slen
    → address_of (middle text alen slen) ≡ Ok address
unfolding address_of
address_at text kind address alen size slen parts =
    let inside = parts.inside in
    let place = comma_at text kind address alen size slen parts in
    let exact : length (middle text alen slen) ≡ alen + 1 + slen = length-take-le (alen + 1 + slen) (drop 3 text) (omega (arith, length-drop 3 text)) in
    let word : before_first is_comma (middle text alen slen) ≡ take alen (drop 3 text) =
    ap (λ n. take n (middle text alen slen)) place ∙ take-take alen (alen + 1 + slen) (drop 3 text) (omega arith) in
    let length_is : length (before_first is_comma (middle text alen slen)) ≡ alen = length-before is_comma (middle text alen slen) ∙ place in
    let comma : has_comma (middle text alen slen) ≡ true = lt-ltb (length (before_first is_comma (middle text alen slen))) (length (middle text alen slen)) (omega arith) in
    let number : numeral_of 16 16 (before_first is_comma (middle text alen slen)) ≡ Some address =
    ap (numeral_of 16 16) word ∙ front_numeral 16 16 (drop 3 text) address alen parts.front parts.some in
    λ i. cond (comma i) (ok_or (number i) NoAddress) (Err NoAddress)

size_at : (text : List ℕ) (kind : AccessKind) (address alen size slen : ℕ) → HasParts text kind address alen size slen
    → size_of (after_first is_comma (middle text alen slen)) ≡ Ok size
unfolding size_of
size_at text kind address alen size slen parts =
    let least = parts.least in
    let most = parts.most in
    let place = comma_at text kind address alen size slen parts in
    let word : after_first is_comma (middle text alen slen) ≡ take slen (drop (3 + alen + 1) text) =
    ap (λ n. drop (n + 1) (middle text alen slen)) place
    ∙ drop-take (alen + 1) slen (drop 3 text)
    ∙ ap (take slen) (drop-drop (alen + 1) 3 text ∙ (let sum : 3 + (alen + 1) ≡ 3 + alen + 1 = omega arith in ap (λ n. drop n text) sum)) in
    let some : 1 ≤ slen = elim (cases_lt 0 slen) [
      | inl more ↦ omega arith
      | inr none ↦ absurd (
          let no_digit : slen ≡ 0 = omega arith in
          let nothing : size ≡ 0 = parts.behind.value_is ∙ ap (λ n. digits_value 10 (take n (drop (3 + alen + 1) text))) no_digit in
          omega arith)
    ] in
    rw (word, front_numeral 10 4 (drop (3 + alen + 1) text) size slen parts.behind some, le-leb 1 size least, le-leb size 1024 most) refl

access_at : (text : List ℕ) (kind : AccessKind) (address alen size slen : ℕ) (access : Access) → HasParts text kind address alen size slen
    → access_with kind address size ≡ Ok access → access_of (take (3 + alen + 1 + slen) text) ≡ Ok access
unfolding access_of
access_at text kind address alen size slen access parts with =
    let sum : 3 + alen + 1 + slen ≡ 3 + (alen + 1 + slen) = omega arith in
    let rest : drop 3 (take (3 + alen + 1 + slen) text) ≡ middle text alen slen =
    ap (λ n. drop 3 (take n text)) sum ∙ drop-take 3 (alen + 1 + slen) text in
    let named : kind_of (take (3 + alen + 1 + slen) text) ≡ Ok kind = kind_of-front text (3 + alen + 1 + slen) (omega arith) ∙ parts.named in
    rw (named, rest, address_at text kind address alen size slen parts, size_at text kind address alen size slen parts) with

no_other : (process : Option (List ℕ)) → is_another process None ≡ false
no_other None = refl
no_other (Some digits) = refl

unmarked_line : (line : List ℕ) → is_marked line ≡ false → process_of line ≡ None
unfolding process_of
unmarked_line line unmarked = rw unmarked refl

access_is_line : (process : Option (List ℕ)) (line : List ℕ) (access : Access) → is_marked line ≡ false → 0 < length line → access_of line ≡ Ok access
    → line_of process line ≡ Ok (Some access)
unfolding line_of
access_is_line process line access unmarked some is =
    rw (unmarked_line line unmarked, no_other process, unmarked, ne_eqb (length line) 0 (λ none. absurd (omega arith)), is) refl

pub ok_some : {A E : Type 0} (r : Result A E) (x : A) → result_ok r ≡ Some x → r ≡ Ok x
ok_some (Ok y) x is = cc
ok_some (Err e) x is = absurd cc

-- an access with its line's end behind it
pub access_line : (text : List ℕ) (kind : AccessKind) (address alen size slen : ℕ) (access : Access)
    → kind_of text ≡ Ok kind → IsInFront 16 16 (drop 3 text) address alen → 1 ≤ alen → get_or text (3 + alen) 0 ≡ 44
    → IsInFront 10 4 (drop (3 + alen + 1) text) size slen → get_or text (3 + alen + 1 + slen) 0 ≡ 10 → 3 + alen + 1 + slen < length text
    → 1 ≤ size → size ≤ 1024 → access_with kind address size ≡ Ok access → IsAccess access
    → IsAccessLine text access (3 + alen + 1 + slen + 1)
access_line text kind address alen size slen access named front some comma behind ends inside least most with valid =
    let parts : HasParts text kind address alen size slen = record {
      named = named;
      front = front;
      some = some;
      comma = comma;
      behind = behind;
      ends = ends;
      inside = inside;
      least = least;
      most = most;
    } in
    let place = end_at text kind address alen size slen parts in
    let line : before_first is_line_end text ≡ take (3 + alen + 1 + slen) text = ap (λ n. take n text) place in
    let unmarked : is_marked (take (3 + alen + 1 + slen) text) ≡ false =
    is_marked-front text (3 + alen + 1 + slen) (omega arith) ∙ (kind_facts text kind named).unmarked in
    let exact : length (take (3 + alen + 1 + slen) text) ≡ 3 + alen + 1 + slen = length-take-le (3 + alen + 1 + slen) text (omega arith) in
    record {
      end = ap (λ n. n + 1) (sym place);
      within = omega arith;
      meaning = λ process. ap (line_of process) line
          ∙ access_is_line process (take (3 + alen + 1 + slen) text) access unmarked (omega arith)
          (access_at text kind address alen size slen access parts with);
      no_process = ap process_of line ∙ unmarked_line (take (3 + alen + 1 + slen) text) unmarked;
      valid = valid;
    }
