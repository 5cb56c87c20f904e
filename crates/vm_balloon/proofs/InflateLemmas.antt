-- Pages that are put into the balloon together.
use Rattle.std.proofs.Common.{◌≡◌, ℕ, ◌+◌, ◌<◌, Bool, true, false, List, [], ◌∷◌, length, get_or, refl, sym, ap, ◌∙◌, arith}
use Rattle.std.specs.Prelude.{◌==◌, All, filter, not}
use Rattle.std.proofs.lemmas.Bool.{lt-ltb, ne_eqb}
use Rattle.std.proofs.lemmas.List.Elements.{All-nil, All-cons, All-head, All-tail}
use Rattle.vm_pages.specs.Pages.{contains, count, insert, insert_all}
use Rattle.vm_pages.proofs.PageSets.{absent-first, count-insert, contains-insert_same, contains-insert_kept, within-insert}
use Rattle.vm_balloon.specs.Absent.{AreAbsent}
use Rattle.vm_balloon.specs.Service.{distinct, can_inflate, inflated_by}

-- a list of which each element passes
filter_whole : (p : ℕ → Bool) (xs : List ℕ) → All (λ x. p x ≡ true) xs → filter p xs ≡ xs
filter_whole p [] passes = refl
filter_whole p (x ∷ xs) passes = rw (All-head (λ y. p y ≡ true) x xs passes, filter_whole p xs (All-tail (λ y. p y ≡ true) x xs passes)) refl

-- a page that the set doesn't have, once it got another one
absent-before : (pages : List Bool) (page other : ℕ) → contains (insert pages page) other ≡ false → contains pages other ≡ false
absent-before pages page other absent =
    let by_flag : (b : Bool) → contains pages other ≡ b → b ≡ false =
    λ b. elim b as (λ v. contains pages other ≡ v → v ≡ false) [
      | true ↦ λ there. sym (contains-insert_kept pages page other there) ∙ absent
      | false ↦ λ gone. refl
    ] in
    by_flag (contains pages other) refl

absent-other : (pages : List Bool) (page other : ℕ) → page < length pages → contains (insert pages page) other ≡ false → not (other == page) ≡ true
absent-other pages page other within absent =
    ap not (ne_eqb other page (λ same.
    let there : contains (insert pages page) page ≡ true = contains-insert_same pages page within in
    let gone : contains (insert pages page) page ≡ false = rw same at absent in
    let wrong : true ≡ false = sym there ∙ gone in
    cc))

-- where each page of a list counts, the set had none of them, and they are different
all-new : (pages : List Bool) (added : List ℕ) → All (λ page. page < length pages) added
    → count (insert_all pages added) ≡ count pages + length added → AreAbsent pages added × (distinct added ≡ added)
unfolding distinct
all-new pages [] within grown = (All-nil (λ page. contains pages page ≡ false), refl)
all-new pages (first ∷ added) within grown =
    let first_within = All-head (λ page. page < length pages) first added within in
    let absent = absent-first pages first added within grown in
    let one = count-insert pages first first_within absent in
    let rest = all-new (insert pages first) added (within-insert pages first added within) (omega (arith, grown, one)) in
    let kept : filter (λ y. not (y == first)) added ≡ added =
    filter_whole (λ y. not (y == first)) added (λ k d below. absent-other pages first (get_or added k d) first_within (rest.0 k d below)) in (
      All-cons (λ page. contains pages page ≡ false) first added absent (λ k d below. absent-before pages first (get_or added k d) (rest.0 k d below)),
      ap (λ (ys : List ℕ). first ∷ filter (λ y. not (y == first)) ys) rest.1 ∙ ap (λ (ys : List ℕ). first ∷ ys) kept,
    )

-- a page of the guest's that is not in the balloon can be put there
can_inflate-absent : (balloon : List Bool) (page : ℕ) → page < length balloon → contains balloon page ≡ false → can_inflate balloon page ≡ true
can_inflate-absent balloon page within absent = rw (lt-ltb page (length balloon) within, absent) refl

-- where each page of a list counts, all go into the balloon
pub inflated_by-all : (balloon : List Bool) (numbers : List ℕ) → All (λ page. page < length balloon) numbers
    → count (insert_all balloon numbers) ≡ count balloon + length numbers → inflated_by balloon numbers ≡ numbers
inflated_by-all balloon numbers within grown =
    let new = all-new balloon numbers within grown in
    let whole : filter (can_inflate balloon) numbers ≡ numbers =
    filter_whole (can_inflate balloon) numbers (λ k d below. can_inflate-absent balloon (get_or numbers k d) (within k d below) (new.0 k d below)) in
    ap distinct whole ∙ new.1
