-- Counts by position to which is added.
use Rattle.std.proofs.Common.{◌≡◌, ◌≢◌, ℕ, zero, suc, ◌+◌, ◌<◌, ◌≤◌, ◌==◌, List, [], ◌∷◌, ◌++◌, Bool, true, false, length, replicate, drop, get_or, slice_set, slice_index, refl, sym, ap, ◌∙◌, arith, if◌then◌else◌}
use Rattle.std.proofs.lemmas.Bool.Decides.{nat_tests}
use Rattle.std.proofs.lemmas.Grind.{get_or_default_zero}
use Rattle.std.proofs.lemmas.List.{drop_all, drop_more}
use Rattle.vm_guest.specs.Record.{saturated}
use Rattle.vm_plan.specs.declared.stretch.Stretch.{Stretch}
use Rattle.vm_plan.specs.Stretches.{moves_of, positions_of}
use Rattle.vm_tally.specs.Counting.{sum_each}
use Rattle.vm_tally.specs.GuestEntries.{entries_of, one_of}
use Rattle.vm_tally.specs.GuestTally.{each_at, each_with_more, entries_in, only_at, with_more}
use Rattle.vm_tally.proofs.EachLemmas.{each_at-each_at, each_at-same}

-- ---- one count

with_more-none : (x : ℕ) → with_more x 0 ≡ x
with_more-none x = omega arith

with_more-both : (x a b : ℕ) → with_more (with_more x a) b ≡ with_more x (a + b)
with_more-both x a b = omega arith

-- a sum that stopped
pub with_more-saturated : (x a : ℕ) → with_more (saturated x) a ≡ saturated (x + a)
with_more-saturated x a = omega arith

-- ---- one position

only-here : (k amount : ℕ) → only_at k amount k ≡ amount
only-here k amount = grind (arith, nat_tests)

only-elsewhere : (place amount p : ℕ) → place ≢ p → only_at place amount p ≡ 0
only-elsewhere place amount p other = grind (arith, nat_tests, other)

-- ---- all of them

more-both : (f g : ℕ → ℕ) (xs : List ℕ) → each_with_more f (each_with_more g xs) ≡ each_with_more (λ p. g p + f p) xs
more-both f g xs =
    each_at-each_at (λ p x. with_more x (f p)) (λ p x. with_more x (g p)) 0 xs ∙ (λ i. each_at (λ p x. with_more-both x (g p) (f p) i) 0 xs)

pub no-more : (xs : List ℕ) → each_with_more (λ _. 0) xs ≡ xs
no-more xs = each_at-same (λ _ x. with_more x 0) 0 xs (λ _ x. with_more-none x)

-- positions that have no place in the list
nowhere : (place amount k : ℕ) (xs : List ℕ) → ((p : ℕ) → k ≤ p → p < k + length xs → place ≢ p)
    → each_at (λ p x. with_more x (only_at place amount p)) k xs ≡ xs
nowhere place amount k [] none = refl
nowhere place amount k (x ∷ xs) none =
    let here : only_at place amount k ≡ 0 = only-elsewhere place amount k (none k (omega arith) (omega arith)) in
    λ i. (ap (with_more x) here ∙ with_more-none x) i ∷ nowhere place amount (k + 1) xs (λ p low high. none p (omega arith) (omega arith)) i

-- one that has
somewhere : (place amount k i : ℕ) (xs : List ℕ) → k + i ≡ place → i < length xs
    → slice_set xs i (with_more (slice_index xs i) amount) ≡ each_at (λ p x. with_more x (only_at place amount p)) k xs
somewhere place amount k i [] at within = absurd (omega arith)
somewhere place amount k zero (x ∷ xs) at within =
    let same : place ≡ k = omega arith in
    let here : only_at place amount k ≡ amount = ap (λ n. only_at n amount k) same ∙ only-here k amount in
    let rest = nowhere place amount (k + 1) xs (λ p low high is. absurd (omega (arith, low, is, same))) in
    λ i. with_more x (sym here i) ∷ sym rest i
somewhere place amount k (suc i) (x ∷ xs) at within =
    let here : only_at place amount k ≡ 0 = only-elsewhere place amount k (λ is. absurd (omega (arith, at, is))) in
    let rest = somewhere place amount (k + 1) i xs (omega arith) (omega arith) in
    λ t. sym (ap (with_more x) here ∙ with_more-none x) t ∷ rest t

pub added-inside : (place amount : ℕ) (xs : List ℕ) → place < length xs
    → slice_set xs place (with_more (slice_index xs place) amount) ≡ each_with_more (only_at place amount) xs
added-inside place amount xs within = somewhere place amount 0 place xs (omega arith) within

pub added-outside : (place amount : ℕ) (xs : List ℕ) → length xs ≤ place → xs ≡ each_with_more (only_at place amount) xs
added-outside place amount xs outside = sym (nowhere place amount 0 xs (λ p low high is. absurd (omega (arith, outside, high, is))))

-- what is written at a place
pub added-there : (place amount read new : ℕ) (xs now : List ℕ) → xs ≡ now → place < length xs → read ≡ get_or xs place read
    → new ≡ with_more read amount → slice_set xs place new ≡ each_with_more (only_at place amount) now
added-there place amount read new xs now same within is added =
    let first : read ≡ slice_index xs place = is ∙ get_or_default_zero xs place read within in
    ap (slice_set xs place) (added ∙ ap (λ n. with_more n amount) first)
    ∙ added-inside place amount xs within ∙ ap (each_with_more (only_at place amount)) same

-- ---- over a list

-- one of a list adds to the counts; the others complete the whole
pub list-more : {A : Type 0} (one : ℕ → A → ℕ) (xs : List A) (i : ℕ) (d : A) (old new whole : List ℕ) → i < length xs
    → new ≡ each_with_more (λ p. one p (get_or xs i d)) old → each_with_more (λ p. sum_each (one p) (drop i xs)) old ≡ whole
    → each_with_more (λ p. sum_each (one p) (drop (i + 1) xs)) new ≡ whole
list-more {A} one xs i d old new whole within more so_far =
    let x = get_or xs i d in
    ap (each_with_more (λ p. sum_each (one p) (drop (i + 1) xs))) more
    ∙ more-both (λ p. sum_each (one p) (drop (i + 1) xs)) (λ p. one p x) old
    ∙ ap (λ (l : List A). each_with_more (λ p. sum_each (one p) l) old) (sym (drop_more xs i d within))
    ∙ so_far

-- all of a list were added
pub list-end : {A : Type 0} (one : ℕ → A → ℕ) (xs : List A) (n : ℕ) (new whole : List ℕ) → n ≡ length xs
    → each_with_more (λ p. sum_each (one p) (drop n xs)) new ≡ whole → new ≡ whole
list-end {A} one xs n new whole all done =
    let gone : drop n xs ≡ [] = drop_all n xs (omega arith) in
    sym (no-more new) ∙ ap (λ (l : List A). each_with_more (λ p. sum_each (one p) l) new) (sym gone) ∙ done

-- what two lists add, one after the other
pub list-both : (f g : ℕ → ℕ) (old between new : List ℕ) → between ≡ each_with_more f old → new ≡ each_with_more g between
    → new ≡ each_with_more (λ p. f p + g p) old
list-both f g old between new first second = second ∙ ap (each_with_more g) first ∙ more-both g f old

-- ---- the entries of stretches

entries-append : (p : ℕ) (xs ys : List ℕ) → entries_of p (xs ++ ys) ≡ entries_of p xs + entries_of p ys
entries-append p [] ys = omega arith
entries-append p (x ∷ xs) ys = omega (arith, entries-append p xs ys)

either-way : (n : ℕ) (b : Bool) → n ≡ (if b then n else n)
either-way n true = refl
either-way n false = refl

one-entry : (b : Bool) (n : ℕ) → (if b then 1 else 0) + (if b then n else 0) ≡ (if b then suc n else 0)
one-entry true n = omega arith
one-entry false n = refl

entries-replicate : (p place n : ℕ) → entries_of p (replicate n place) ≡ only_at place n p
entries-replicate p place zero = either-way 0 (place == p)
entries-replicate p place (suc n) = ap (λ m. one_of p place + m) (entries-replicate p place n) ∙ one-entry (place == p) n

entries-stretches : (p : ℕ) (stretches : List Stretch) → entries_of p (moves_of stretches) ≡ sum_each (entries_in p) stretches
entries-stretches p [] = refl
entries-stretches p (stretch ∷ stretches) =
    entries-append p (positions_of stretch) (moves_of stretches)
    ∙ (λ i. entries-replicate p stretch.position stretch.count i + entries-stretches p stretches i)

-- what the stretches of a list add is what the list adds
pub stretches-added : (stretches : List Stretch) (moves old new : List ℕ) → moves_of stretches ≡ moves
    → new ≡ each_with_more (λ p. sum_each (entries_in p) stretches) old → new ≡ each_with_more (λ p. entries_of p moves) old
stretches-added stretches moves old new are more =
    more ∙ (λ i. each_with_more (λ p. (sym (entries-stretches p stretches) ∙ ap (entries_of p) are) i) old)
