use borrow.Author.Tests.{leb-true}
use Rattle.std.proofs.Common.{◌≡◌, ◌∙◌, ℕ, suc, zero, ◌-◌, ◌≤◌, ◌==◌, ◌&&◌, Bool, true, false, not, nat_eq, leb, List, length, take, drop, bytes_eq, Option, Some, None, refl, sym, ap, arith}
use Rattle.std.proofs.lemmas.Bool.{le-leb, ne_eqb}
use Rattle.std.proofs.lemmas.Bool.Decides.{same_from_decides}
use Rattle.std.proofs.lemmas.List.{take_rest}
use Rattle.std.proofs.lemmas.Slice.Eq.{bytes_eq-Decides}
use Rattle.std.specs.List.{before_first, starts_with}
use Rattle.vm_import.specs.Lines.{begins_with, digits_behind, is_marked, is_no_digit, process_of}
use Rattle.vm_import.proofs.lines.process_of.Goals.{then-not-is_empty, else-not-is_empty, else-is_process-via-then-is_process+else-starts_with, else-is_process-via-else-is_process}
use Rattle.vm_import.proofs.lines.process_of.Goals as goal

not_marked : (line : List ℕ) → is_marked line ≡ false → ◌≡◌ {A = Option (List ℕ)} None (process_of line)
unfolding process_of
not_marked line unmarked = rw unmarked refl

-- whether so many digits name a process
abbrev is_range : ℕ → Bool
is_range n = leb 1 n && leb n 10

some_digits : (n : ℕ) (is : Bool) → false ≡ (n == 0) → is ≡ leb n 10 → is ≡ is_range n
some_digits zero is some same = absurd cc
some_digits (suc n) is some same = rw (le-leb 1 (suc n) (omega arith)) same

no_digits : (n : ℕ) (is empty : Bool) → true ≡ (n == 0) → empty ≡ true → is ≡ not empty → is ≡ is_range n
no_digits zero is empty none same told = told ∙ ap not same
no_digits (suc n) is empty none same told = absurd (let some = ne_eqb (suc n) 0 (λ e. absurd (omega (arith, e))) in cc)

both : (p q : Bool) → (p && q) ≡ true → (p ≡ true) × (q ≡ true)
both true q h = (refl, h)
both false q h = absurd cc

range_of : (n : ℕ) → is_range n ≡ true → (1 ≤ n) × (n ≤ 10)
range_of n h = let parts = both (leb 1 n) (leb n 10) h in (leb-true 1 n parts.0, leb-true n 10 parts.1)

-- the same mark again, as it is looked for in what is behind the digits
swapped : (a b : List ℕ) → bytes_eq a b ≡ bytes_eq b a
swapped a b = same_from_decides (bytes_eq a b) (bytes_eq b a) (bytes_eq-Decides a b) (let d = bytes_eq-Decides b a in (λ h. sym (d.0 h), λ e. d.1 (sym e)))

again : (line : List ℕ) (n : ℕ) → let text = take (length line - 2) (drop 2 line) in
    starts_with nat_eq (take (length text - n) (drop n text)) (take 2 line) ≡ begins_with (drop n (drop 2 line)) (take 2 line)
again line n =
    let text = take (length line - 2) (drop 2 line) in
    ap (λ l. starts_with nat_eq l (take 2 line)) (take_rest text n ∙ ap (drop n) (take_rest line 2))
    ∙ swapped (take 2 line) (take (length (take 2 line)) (drop n (drop 2 line)))

named : (line digits : List ℕ) → is_marked line ≡ true → digits_behind line ≡ digits → (1 ≤ length digits) × (length digits ≤ 10)
    → begins_with (drop (length digits) (drop 2 line)) (take 2 line) ≡ true → Some digits ≡ process_of line
unfolding process_of
named line digits marked same range mark =
    rw (marked, same, le-leb 1 (length digits) range.0, le-leb (length digits) 10 range.1, mark) refl

out_of_range : (a p q b : Bool) → (p && q) ≡ false → (a && (p && (q && b))) ≡ false
out_of_range false p q b none = refl
out_of_range true false q b none = refl
out_of_range true true false b none = refl
out_of_range true true true b none = absurd cc

not_again : (a p q b : Bool) → b ≡ false → (a && (p && (q && b))) ≡ false
not_again false p q b none = refl
not_again true false q b none = refl
not_again true true false b none = refl
not_again true true true b none = none

unnamed : (line digits : List ℕ) → digits_behind line ≡ digits
    → (is_marked line && (leb 1 (length digits) && (leb (length digits) 10 && begins_with (drop (length digits) (drop 2 line)) (take 2 line)))) ≡ false
    → ◌≡◌ {A = Option (List ℕ)} None (process_of line)
unfolding process_of
unnamed line digits same none = rw (same, none) refl

digits_are : (line digits : List ℕ) → digits ≡ before_first is_no_digit (take (length line - 2) (drop 2 line)) → digits_behind line ≡ digits
digits_are line digits is = sym (is ∙ ap (before_first is_no_digit) (take_rest line 2))

pub returns-then-not-is_marked-clause-digits : goal.returns-then-not-is_marked-clause-digits
returns-then-not-is_marked-clause-digits c = not_marked c.args.line.now (sym c.is_marked.ensures ∙ c.if-not-is_marked.true)

pub returns-then-starts_with-clause-digits : goal.returns-then-starts_with-clause-digits
returns-then-starts_with-clause-digits c =
    let digits = c.digits_of-digits.result.now in
    let range : c.if-not-is_empty.is_process ≡ is_range (length digits) = elim c.if-not-is_empty.branch [
      | then-not-is_empty w ↦ some_digits (length digits) c.if-not-is_empty.is_process w.if-not-is_empty.ensures w.is_process-is
      | else-not-is_empty w ↦ no_digits (length digits) c.if-not-is_empty.is_process c.is_empty.result w.if-not-is_empty.ensures w.if-not-is_empty.false w.is_process-is
    ] in
    named c.args.line.now digits (sym c.is_marked.ensures ∙ c.if-not-is_marked.false) (digits_are c.args.line.now digits c.digits_of-digits.ensures)
    (range_of (length digits) (sym range ∙ c.if-is_process.true))
    (sym (again c.args.line.now (length digits)) ∙ sym c.starts_with.ensures.value ∙ c.if-starts_with.true)

pub returns-then-starts_with-clause-few : goal.returns-then-starts_with-clause-few
returns-then-starts_with-clause-few c =
    let digits = c.digits_of-digits.result.now in
    let range : c.if-not-is_empty.is_process ≡ is_range (length digits) = elim c.if-not-is_empty.branch [
      | then-not-is_empty w ↦ some_digits (length digits) c.if-not-is_empty.is_process w.if-not-is_empty.ensures w.is_process-is
      | else-not-is_empty w ↦ no_digits (length digits) c.if-not-is_empty.is_process c.is_empty.result w.if-not-is_empty.ensures w.if-not-is_empty.false w.is_process-is
    ] in
    (range_of (length digits) (sym range ∙ c.if-is_process.true)).1

pub returns-else-is_process-clause-digits : goal.returns-else-is_process-clause-digits
returns-else-is_process-clause-digits c =
    let line = c.args.line.now in
    let digits = c.digits_of-digits.result.now in
    let range : c.if-not-is_empty.is_process ≡ is_range (length digits) = elim c.if-not-is_empty.branch [
      | then-not-is_empty w ↦ some_digits (length digits) c.if-not-is_empty.is_process w.if-not-is_empty.ensures w.is_process-is
      | else-not-is_empty w ↦ no_digits (length digits) c.if-not-is_empty.is_process c.is_empty.result w.if-not-is_empty.ensures w.if-not-is_empty.false w.is_process-is
    ] in
    unnamed line digits (digits_are line digits c.digits_of-digits.ensures)
    (elim c.else-is_process.branch [
      | else-is_process-via-then-is_process+else-starts_with w ↦
          not_again (is_marked line) (leb 1 (length digits)) (leb (length digits) 10) (begins_with (drop (length digits) (drop 2 line)) (take 2 line))
          (sym (again line (length digits)) ∙ sym w.starts_with.ensures.value ∙ w.if-starts_with.false)
      | else-is_process-via-else-is_process w ↦
          out_of_range (is_marked line) (leb 1 (length digits)) (leb (length digits) 10) (begins_with (drop (length digits) (drop 2 line)) (take 2 line))
          (sym range ∙ w.if-is_process.false)
    ])
