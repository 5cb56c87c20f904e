-- For callers: the pages of a set in rising order, by place and after a change.
use Rattle.std.proofs.Common.{◌≡◌, ℕ, zero, suc, ◌+◌, ◌-◌, ◌<◌, ◌≤◌, ◌↔◌, Bool, true, false, cond, List, [], ◌∷◌, ◌++◌, length, reverse, take, drop, set, get_or, refl, sym, ap, ◌∙◌, inl, inr, one-add, add-one, arith}
use Rattle.std.specs.List.{All, Contains}
use Rattle.std.specs.List.Sorted.{IsStrictlyIncreasing}
use Rattle.std.proofs.lemmas.List.{take_all, take-take, take-set-le, get_or_read, get_or-reverse, length-reverse}
use Rattle.std.proofs.lemmas.List.Elements.{All-from_get_or}
use Rattle.std.proofs.lemmas.Bool.{cases_lt}
use Rattle.std.proofs.lemmas.List.Sums.{sum_by-cons, sum_by_more, sum_by_from, sum_by-take-le}
use Rattle.vm_pages.specs.Pages.{no_pages, contains, insert, remove, count, count_below, members, members_from}
use Rattle.vm_pages.proofs.PageSets.{lt-length, contains-no_pages, count-cons, count-no_pages, length-no_pages}

abbrev weight : Bool → ℕ
weight marked = cond marked 1 0

-- a changed mark counts below each later page
pub count_below-set : (pages : List Bool) (page i : ℕ) (mark : Bool) → page < length pages → page < i → count_below (set pages page mark) i + cond (get_or pages page false) 1 0 ≡ count_below pages i + cond mark 1 0
count_below-set [] page i mark there below = absurd (omega arith)
count_below-set (x ∷ xs) page zero mark there below = absurd (omega arith)
count_below-set (x ∷ xs) zero (suc i) mark there below = omega (arith, sum_by-cons weight mark (take i xs), sum_by-cons weight x (take i xs))
count_below-set (x ∷ xs) (suc page) (suc i) mark there below =
    omega (arith, sum_by-cons weight x (take i (set xs page mark)), sum_by-cons weight x (take i xs), count_below-set xs page i mark (omega arith) (omega arith))

-- a marked page stands in the listing behind those below it
pub members-count_below : (first : ℕ) (pages : List Bool) (page d : ℕ) → page < length pages → get_or pages page false ≡ true → get_or (members_from first pages) (count_below pages page) d ≡ first + page
members-count_below first [] page d there marked = absurd (omega arith)
members-count_below first (true ∷ xs) zero d there marked = omega arith
members-count_below first (false ∷ xs) zero d there marked = let no : false ≡ true = marked in absurd (cc)
members-count_below first (true ∷ xs) (suc page) d there marked =
    rw (sum_by_from weight 1 (take page xs), one-add) (omega (arith, members-count_below (first + 1) xs page d (omega arith) marked))
members-count_below first (false ∷ xs) (suc page) d there marked = omega (arith, members-count_below (first + 1) xs page d (omega arith) marked)

-- the k-th page of the set is marked, and k others stand below it
pub kth_page : (pages : List Bool) (page k : ℕ) → page < length pages → get_or pages page false ≡ true → count_below pages page ≡ k → page ≡ get_or (members pages) k 0
kth_page pages page k there marked below = rw (← below) (omega (arith, members-count_below 0 pages page 0 there marked))

-- one page more
pub count_below_more : (pages : List Bool) (page : ℕ) → page < length pages → count_below pages (page + 1) ≡ count_below pages page + cond (get_or pages page false) 1 0
count_below_more pages page there = sum_by_more weight pages page false there

-- below the end stand all
pub count_below_all : (pages : List Bool) (page : ℕ) → length pages ≤ page → count_below pages page ≡ count pages
count_below_all pages page past = rw (take_all page pages past)

pub length-members_from : (first : ℕ) (pages : List Bool) → length (members_from first pages) ≡ count pages
length-members_from first [] = refl
length-members_from first (true ∷ xs) = omega (arith, sum_by-cons weight true xs, length-members_from (first + 1) xs)
length-members_from first (false ∷ xs) = omega (arith, sum_by-cons weight false xs, length-members_from (first + 1) xs)

pub count_below-set_before : (pages : List Bool) (page i : ℕ) (mark : Bool) → i ≤ page → count_below (set pages page mark) i ≡ count_below pages i
count_below-set_before pages page i mark above = rw (take-set-le i pages page mark above)

pub count_below_mono : (pages : List Bool) (i j : ℕ) → i ≤ j → count_below pages i ≤ count_below pages j
count_below_mono pages i j h = rw (← take-take i j pages h) (sum_by-take-le weight (take j pages) i)

-- as many are listed as are counted
pub length-members : (pages : List Bool) → length (members pages) ≡ count pages
length-members pages = length-members_from 0 pages

-- fewer stand below a page of the set than it has
pub count_below-lt-count : (pages : List Bool) (page : ℕ) → contains pages page ≡ true → count_below pages page < count pages
count_below-lt-count pages page there =
    let more = rw there at (count_below_more pages page (lt-length pages page there)) in
    omega (arith, more, sum_by-take-le weight pages (page + 1))

-- the k-th page that is listed
record Listed (first : ℕ) (pages : List Bool) (k : ℕ) : Type 0 where
  page : ℕ
  there : contains pages page ≡ true
  below : count_below pages page ≡ k
  is : get_or (members_from first pages) k 0 ≡ first + page

listed : (first : ℕ) (pages : List Bool) (k : ℕ) → k < count pages → Listed first pages k
listed first [] k few = absurd (omega arith)
listed first (true ∷ xs) zero few = record { page = 0; there = refl; below = refl; is = omega arith }
listed first (true ∷ xs) (suc k) few =
    let rest = listed (first + 1) xs k (omega (arith, count-cons true xs)) in
    record { page = suc rest.page; there = rest.there; below = omega (arith, count-cons true (take rest.page xs), rest.below); is = omega (arith, rest.is) }
listed first (false ∷ xs) k few =
    let rest = listed (first + 1) xs k (omega (arith, count-cons false xs)) in
    record { page = suc rest.page; there = rest.there; below = omega (arith, count-cons false (take rest.page xs), rest.below); is = omega (arith, rest.is) }

-- the k-th page is in the set, is one of the guest's, and k others of the set stand below it
pub contains-nth : (pages : List Bool) (k : ℕ) → k < count pages → contains pages (get_or (members pages) k 0) ≡ true
contains-nth pages k few =
    let found = listed 0 pages k few in
    let place : get_or (members pages) k 0 ≡ found.page = omega (arith, found.is) in
    rw place found.there

pub nth-lt-length : (pages : List Bool) (k : ℕ) → k < count pages → get_or (members pages) k 0 < length pages
nth-lt-length pages k few = lt-length pages (get_or (members pages) k 0) (contains-nth pages k few)

pub count_below-nth : (pages : List Bool) (k : ℕ) → k < count pages → count_below pages (get_or (members pages) k 0) ≡ k
count_below-nth pages k few =
    let found = listed 0 pages k few in
    let place : get_or (members pages) k 0 ≡ found.page = omega (arith, found.is) in
    rw place found.below

-- each page of the set is listed at the place that those below it leave
pub nth-count_below : (pages : List Bool) (page : ℕ) → contains pages page ≡ true → get_or (members pages) (count_below pages page) 0 ≡ page
nth-count_below pages page there = omega (arith, members-count_below 0 pages page 0 (lt-length pages page there) there)

-- the listing has pages of the guest alone
pub All-members : (pages : List Bool) → All (λ page. page < length pages) (members pages)
All-members pages = All-from_get_or (λ page. page < length pages) (members pages) 0 (λ k within. nth-lt-length pages k (omega (arith, length-members pages)))

pub All-reverse_members : (pages : List Bool) → All (λ page. page < length pages) (reverse (members pages))
All-reverse_members pages = λ k d within.
    let there : k < length (members pages) = omega (arith, length-reverse (members pages)) in
    rw (get_or-reverse (members pages) k d there) (All-members pages (length (members pages) - 1 - k) d (omega arith))

-- the listing rises
pub IsStrictlyIncreasing-members : (pages : List Bool) → IsStrictlyIncreasing (members pages)
IsStrictlyIncreasing-members pages k within =
    let few : k + 1 < count pages = omega (arith, length-members pages) in
    elim (cases_lt (get_or (members pages) k 0) (get_or (members pages) (k + 1) 0)) [
      | inl rises ↦ rises
      | inr falls ↦ absurd (omega (arith, count_below_mono pages _ _ falls, count_below-nth pages k (omega arith), count_below-nth pages (k + 1) few))
    ]

-- a page is listed exactly where it is in the set
pub Contains-members : (pages : List Bool) (page : ℕ) → Contains (members pages) page ↔ (contains pages page ≡ true)
Contains-members pages page = (
  (λ place.
      let few : place.0 < count pages = omega (arith, length-members pages, place.1) in
      rw (get_or_read (members pages) place.0 page place.1 (sym place.2) 0) (contains-nth pages place.0 few)),
  (λ there.
      (count_below pages page, omega (arith, length-members pages, count_below-lt-count pages page there), omega (arith, members-count_below 0 pages page page (lt-length pages page there) there))),
)

-- a page that comes in stands behind those below it
members_from-insert : (first : ℕ) (pages : List Bool) (page : ℕ) → page < length pages → contains pages page ≡ false
    → members_from first (insert pages page) ≡ take (count_below pages page) (members_from first pages) ++ (first + page) ∷ drop (count_below pages page) (members_from first pages)
members_from-insert first [] page there absent = absurd (omega arith)
members_from-insert first (true ∷ xs) zero there absent = let no : true ≡ false = absent in absurd (cc)
members_from-insert first (false ∷ xs) zero there absent = ap (λ n. n ∷ members_from (first + 1) xs) (omega arith)
members_from-insert first (true ∷ xs) (suc page) there absent =
    rw (sum_by_from weight 1 (take page xs), one-add)
    (ap (λ l. first ∷ l)
    (members_from-insert (first + 1) xs page (omega arith) absent
    ∙ ap (λ n. take (count_below xs page) (members_from (first + 1) xs) ++ n ∷ drop (count_below xs page) (members_from (first + 1) xs)) (omega arith)))
members_from-insert first (false ∷ xs) (suc page) there absent =
    members_from-insert (first + 1) xs page (omega arith) absent
    ∙ ap (λ n. take (count_below xs page) (members_from (first + 1) xs) ++ n ∷ drop (count_below xs page) (members_from (first + 1) xs)) (omega arith)

pub members-insert : (pages : List Bool) (page : ℕ) → page < length pages → contains pages page ≡ false
    → members (insert pages page) ≡ take (count_below pages page) (members pages) ++ page ∷ drop (count_below pages page) (members pages)
members-insert pages page there absent =
    members_from-insert 0 pages page there absent ∙ ap (λ n. take (count_below pages page) (members pages) ++ n ∷ drop (count_below pages page) (members pages)) (omega arith)

-- a page that leaves is left out of the listing
members_from-remove : (first : ℕ) (pages : List Bool) (page : ℕ) → page < length pages → contains pages page ≡ true
    → members_from first (remove pages page) ≡ take (count_below pages page) (members_from first pages) ++ drop (suc (count_below pages page)) (members_from first pages)
members_from-remove first [] page there present = absurd (omega arith)
members_from-remove first (true ∷ xs) zero there present = refl
members_from-remove first (false ∷ xs) zero there present = let no : false ≡ true = present in absurd (cc)
members_from-remove first (true ∷ xs) (suc page) there present =
    rw (sum_by_from weight 1 (take page xs), one-add) (ap (λ l. first ∷ l) (members_from-remove (first + 1) xs page (omega arith) present))
members_from-remove first (false ∷ xs) (suc page) there present = members_from-remove (first + 1) xs page (omega arith) present

pub members-remove : (pages : List Bool) (page : ℕ) → contains pages page ≡ true
    → members (remove pages page) ≡ take (count_below pages page) (members pages) ++ drop (count_below pages page + 1) (members pages)
members-remove pages page present = rw add-one (members_from-remove 0 pages page (lt-length pages page present) present)

-- no page, and one alone
members_from-no_pages : (first size : ℕ) → members_from first (no_pages size) ≡ []
members_from-no_pages first zero = refl
members_from-no_pages first (suc size) = members_from-no_pages (first + 1) size

pub members-no_pages : (size : ℕ) → members (no_pages size) ≡ []
members-no_pages size = members_from-no_pages 0 size

pub members-insert_first : (size page : ℕ) → page < size → members (insert (no_pages size) page) ≡ page ∷ []
members-insert_first size page there =
    let before : count_below (no_pages size) page ≡ 0 = omega (arith, sum_by-take-le weight (no_pages size) page, count-no_pages size) in
    rw (members-insert (no_pages size) page (omega (arith, length-no_pages size)) (contains-no_pages size page), members-no_pages size, before) refl
