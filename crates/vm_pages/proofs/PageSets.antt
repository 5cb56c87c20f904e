-- For callers: a set of pages after a change, and how many pages it has.
use Rattle.std.proofs.Common.{◌≡◌, ◌≢◌, ℕ, zero, suc, ◌+◌, ◌<◌, ◌≤◌, Bool, true, false, not, ◌||◌, cond, List, [], ◌∷◌, Option, Some, None, drop, length, set, take, refl, sym, ap, ◌∙◌, inl, inr, arith}
use Rattle.std.specs.Prelude.{All}
use Rattle.std.proofs.lemmas.List.{length-drop, take-append-drop, length-set, length-replicate, set-get_or, get_or_past, get_or-set_same, get_or-set_other, get_or-replicate}
use Rattle.std.proofs.lemmas.Bool.{cases_eq, cases_lt}
use Rattle.std.proofs.lemmas.List.Elements.{All-drop, All-head, All-tail}
use Rattle.std.proofs.lemmas.List.Sums.{fold-append, sum_by-cons, sum_by-set, count_by-le-length}
use Rattle.vm_pages.specs.Pages.{no_pages, all_pages, contains, insert, remove, insert_all, remove_all, neither, without, count}

-- a change keeps the guest's size
pub length-insert : (pages : List Bool) (page : ℕ) → length (insert pages page) ≡ length pages
length-insert pages page = length-set pages page true

pub length-remove : (pages : List Bool) (page : ℕ) → length (remove pages page) ≡ length pages
length-remove pages page = length-set pages page false

pub length-no_pages : (size : ℕ) → length (no_pages size) ≡ size
length-no_pages size = length-replicate size false

pub length-all_pages : (size : ℕ) → length (all_pages size) ≡ size
length-all_pages size = length-replicate size true

pub length-insert_all : (pages : List Bool) (added : List ℕ) → length (insert_all pages added) ≡ length pages
length-insert_all pages [] = refl
length-insert_all pages (page ∷ added) = length-insert_all (insert pages page) added ∙ length-insert pages page

pub length-remove_all : (pages : List Bool) (removed : List ℕ) → length (remove_all pages removed) ≡ length pages
length-remove_all pages [] = refl
length-remove_all pages (page ∷ removed) = length-remove_all (remove pages page) removed ∙ length-remove pages page

pub length-neither : (pages others : List Bool) → length pages ≡ length others → length (neither pages others) ≡ length pages
length-neither [] [] same = refl
length-neither [] (other ∷ others) same = refl
length-neither (page ∷ pages) [] same = absurd (omega arith)
length-neither (page ∷ pages) (other ∷ others) same = omega (arith, length-neither pages others (omega arith))

pub length-without : (pages : List Bool) (page : Option ℕ) → length (without pages page) ≡ length pages
length-without pages None = refl
length-without pages (Some page) = length-remove pages page

-- a page of the set is one of the guest's
pub lt-length : (pages : List Bool) (page : ℕ) → contains pages page ≡ true → page < length pages
lt-length pages page there =
    elim (cases_lt page (length pages)) [
      | inl below ↦ below
      | inr past ↦ let gone : false ≡ true = sym (get_or_past pages page false past) ∙ there in absurd (cc)
    ]

-- two sets are equal where they have the same pages
pub same_pages : (xs ys : List Bool) → length xs ≡ length ys → ((page : ℕ) → page < length xs → contains xs page ≡ contains ys page) → xs ≡ ys
same_pages [] [] sizes same = refl
same_pages [] (y ∷ ys) sizes same = absurd (omega arith)
same_pages (x ∷ xs) [] sizes same = absurd (omega arith)
same_pages (x ∷ xs) (y ∷ ys) sizes same =
    let first : x ≡ y = same 0 (omega arith) in
    let rest : xs ≡ ys = same_pages xs ys (omega arith) (λ page below. same (suc page) (omega arith)) in
    cc

-- which pages a set has after a change
pub contains-no_pages : (size page : ℕ) → contains (no_pages size) page ≡ false
contains-no_pages size page =
    elim (cases_lt page size) [
      | inl below ↦ get_or-replicate size page false false below
      | inr past ↦ get_or_past (no_pages size) page false (omega (arith, length-no_pages size))
    ]

pub contains-all_pages : (size page : ℕ) → page < size → contains (all_pages size) page ≡ true
contains-all_pages size page there = get_or-replicate size page true false there

pub contains-insert_same : (pages : List Bool) (page : ℕ) → page < length pages → contains (insert pages page) page ≡ true
contains-insert_same pages page there = get_or-set_same pages page true false there

pub contains-insert_other : (pages : List Bool) (page other : ℕ) → other ≢ page → contains (insert pages page) other ≡ contains pages other
contains-insert_other pages page other differs = get_or-set_other pages page other true false differs

pub contains-remove_same : (pages : List Bool) (page : ℕ) → contains (remove pages page) page ≡ false
contains-remove_same pages page =
    elim (cases_lt page (length pages)) [
      | inl below ↦ get_or-set_same pages page false false below
      | inr past ↦ get_or_past (remove pages page) page false (omega (arith, length-remove pages page))
    ]

pub contains-remove_other : (pages : List Bool) (page other : ℕ) → other ≢ page → contains (remove pages page) other ≡ contains pages other
contains-remove_other pages page other differs = get_or-set_other pages page other false false differs

pub contains-neither : (pages others : List Bool) (page : ℕ) → length pages ≡ length others → page < length pages
    → contains (neither pages others) page ≡ not (contains pages page || contains others page)
contains-neither [] others page same below = absurd (omega arith)
contains-neither (first ∷ pages) [] page same below = absurd (omega arith)
contains-neither (first ∷ pages) (other ∷ others) zero same below = refl
contains-neither (first ∷ pages) (other ∷ others) (suc page) same below = contains-neither pages others page (omega arith) (omega arith)

-- an insertion loses no page, and a removal brings none
pub contains-insert_kept : (pages : List Bool) (page other : ℕ) → contains pages other ≡ true → contains (insert pages page) other ≡ true
contains-insert_kept pages page other there =
    elim (cases_eq other page) [
      | inl same ↦ rw same (contains-insert_same pages page (rw same at (lt-length pages other there)))
      | inr differs ↦ contains-insert_other pages page other differs ∙ there
    ]

pub contains-remove_before : (pages : List Bool) (page other : ℕ) → contains (remove pages page) other ≡ true → contains pages other ≡ true
contains-remove_before pages page other there =
    elim (cases_eq other page) [
      | inl same ↦ let gone : false ≡ true = sym (contains-remove_same pages page) ∙ (rw same at there) in absurd (cc)
      | inr differs ↦ sym (contains-remove_other pages page other differs) ∙ there
    ]

-- changes that change nothing, or undo each other
pub insert-contained : (pages : List Bool) (page : ℕ) → contains pages page ≡ true → insert pages page ≡ pages
insert-contained pages page there = ap (λ flag. set pages page flag) (sym there) ∙ set-get_or pages page false

pub remove-absent : (pages : List Bool) (page : ℕ) → contains pages page ≡ false → remove pages page ≡ pages
remove-absent pages page absent = ap (λ flag. set pages page flag) (sym absent) ∙ set-get_or pages page false

pub remove-insert : (pages : List Bool) (page : ℕ) → contains pages page ≡ false → remove (insert pages page) page ≡ pages
remove-insert pages page absent =
    same_pages (remove (insert pages page) page) pages (length-remove (insert pages page) page ∙ length-insert pages page)
    (λ other below. elim (cases_eq other page) [
      | inl same ↦ rw same (contains-remove_same (insert pages page) page ∙ sym absent)
      | inr differs ↦ contains-remove_other (insert pages page) page other differs ∙ contains-insert_other pages page other differs
    ])

pub insert-remove : (pages : List Bool) (page : ℕ) → contains pages page ≡ true → insert (remove pages page) page ≡ pages
insert-remove pages page there =
    same_pages (insert (remove pages page) page) pages (length-insert (remove pages page) page ∙ length-remove pages page)
    (λ other below. elim (cases_eq other page) [
      | inl same ↦ rw same (contains-insert_same (remove pages page) page (omega (arith, length-remove pages page, lt-length pages page there)) ∙ sym there)
      | inr differs ↦ contains-insert_other (remove pages page) page other differs ∙ contains-remove_other pages page other differs
    ])

-- many pages at once
pub contains-insert_all_kept : (pages : List Bool) (added : List ℕ) (page : ℕ) → contains pages page ≡ true → contains (insert_all pages added) page ≡ true
contains-insert_all_kept pages [] page there = there
contains-insert_all_kept pages (first ∷ added) page there = contains-insert_all_kept (insert pages first) added page (contains-insert_kept pages first page there)

pub contains-remove_all_before : (pages : List Bool) (removed : List ℕ) (page : ℕ) → contains (remove_all pages removed) page ≡ true → contains pages page ≡ true
contains-remove_all_before pages [] page there = there
contains-remove_all_before pages (first ∷ removed) page there = contains-remove_before pages first page (contains-remove_all_before (remove pages first) removed page there)

-- how many pages a set has
pub count-cons : (flag : Bool) (pages : List Bool) → count (flag ∷ pages) ≡ cond flag 1 0 + count pages
count-cons flag pages = sum_by-cons (λ marked. cond marked 1 0) flag pages

pub count-no_pages : (size : ℕ) → count (no_pages size) ≡ 0
count-no_pages zero = refl
count-no_pages (suc size) = count-no_pages size

pub count-all_pages : (size : ℕ) → count (all_pages size) ≡ size
count-all_pages zero = refl
count-all_pages (suc size) = omega (arith, count-cons true (all_pages size), count-all_pages size)

pub count-le-length : (pages : List Bool) → count pages ≤ length pages
count-le-length pages = count_by-le-length (λ marked. marked) pages

pub count-insert : (pages : List Bool) (page : ℕ) → page < length pages → contains pages page ≡ false → count (insert pages page) ≡ count pages + 1
count-insert pages page there absent =
    let changed = rw absent at (sum_by-set (λ marked. cond marked 1 0) pages page true false there) in
    omega (arith, changed)

pub count-remove : (pages : List Bool) (page : ℕ) → contains pages page ≡ true → count (remove pages page) + 1 ≡ count pages
count-remove pages page there =
    let changed = rw there at (sum_by-set (λ marked. cond marked 1 0) pages page false false (lt-length pages page there)) in
    omega (arith, changed)

-- a page of the set is counted
pub count-positive : (pages : List Bool) (page : ℕ) → contains pages page ≡ true → 0 < count pages
count-positive pages page there = omega (arith, count-remove pages page there)

-- a page that isn't in the set leaves room for it
pub count-lt-length : (pages : List Bool) (page : ℕ) → page < length pages → contains pages page ≡ false → count pages < length pages
count-lt-length pages page there absent =
    omega (arith, count-insert pages page there absent, count-le-length (insert pages page), length-insert pages page)

-- a set that counts none is empty
pub no_pages-of_count : (pages : List Bool) → count pages ≡ 0 → pages ≡ no_pages (length pages)
no_pages-of_count [] none = refl
no_pages-of_count (true ∷ pages) none = absurd (omega (arith, count-cons true pages))
no_pages-of_count (false ∷ pages) none = ap (λ rest. false ∷ rest) (no_pages-of_count pages (omega (arith, count-cons false pages)))

-- a page that one set doesn't have may come into another one that has no page in common with it
pub apart-insert : (pages others : List Bool) (page : ℕ) → ((p : ℕ) → contains others p ≡ true → contains pages p ≡ false) → contains pages page ≡ false
    → (p : ℕ) → contains (insert others page) p ≡ true → contains pages p ≡ false
apart-insert pages others page apart absent p there =
    elim (cases_eq p page) [
      | inl same ↦ rw same absent
      | inr differs ↦ apart p (sym (contains-insert_other others page p differs) ∙ there)
    ]

-- the other pages of a list are still the guest's
pub within-insert : (pages : List Bool) (first : ℕ) (added : List ℕ) → All (λ page. page < length pages) (first ∷ added)
    → All (λ page. page < length (insert pages first)) added
within-insert pages first added within = rw (length-insert pages first) (All-tail (λ page. page < length pages) first added within)

-- a page more at most
count-insert-le : (pages : List Bool) (page : ℕ) → page < length pages → count (insert pages page) ≤ count pages + 1
count-insert-le pages page within =
    let by_flag : (b : Bool) → contains pages page ≡ b → count (insert pages page) ≤ count pages + 1 =
    λ b. elim b as (λ v. contains pages page ≡ v → count (insert pages page) ≤ count pages + 1) [
      | true ↦ λ there. let same = ap count (insert-contained pages page there) in omega (arith, same)
      | false ↦ λ absent. let one = count-insert pages page within absent in omega (arith, one)
    ] in
    by_flag (contains pages page) refl

-- as many pages more at most as are listed
pub count-insert_all-le : (pages : List Bool) (added : List ℕ) → All (λ page. page < length pages) added → count (insert_all pages added) ≤ count pages + length added
count-insert_all-le pages [] within = omega arith
count-insert_all-le pages (first ∷ added) within =
    let one = count-insert-le pages first (All-head (λ page. page < length pages) first added within) in
    let rest = count-insert_all-le (insert pages first) added (within-insert pages first added within) in
    omega (arith, one, rest)

-- a list in two parts
pub insert_all-parts : (pages : List Bool) (added : List ℕ) (n : ℕ) → insert_all (insert_all pages (take n added)) (drop n added) ≡ insert_all pages added
insert_all-parts pages added n = sym (fold-append insert pages (take n added) (drop n added)) ∙ ap (insert_all pages) (take-append-drop n added)

-- where the first of them bring fewer pages than they are, so do all
pub count-insert_all-short : (pages : List Bool) (added : List ℕ) (n : ℕ) → All (λ page. page < length pages) added → n ≤ length added
    → count (insert_all pages (take n added)) < count pages + n → count (insert_all pages added) < count pages + length added
count-insert_all-short pages added n within few short =
    let first = insert_all pages (take n added) in
    let others : All (λ page. page < length first) (drop n added) = rw (length-insert_all pages (take n added)) (All-drop (λ page. page < length pages) n added within) in
    omega (arith, short, few, count-insert_all-le first (drop n added) others, ap count (insert_all-parts pages added n), length-drop n added)

-- where each page of a list counts, the first one was not there
pub absent-first : (pages : List Bool) (first : ℕ) (added : List ℕ) → All (λ page. page < length pages) (first ∷ added)
    → count (insert_all pages (first ∷ added)) ≡ count pages + length (first ∷ added) → contains pages first ≡ false
absent-first pages first added within grown =
    let by_flag : (b : Bool) → contains pages first ≡ b → b ≡ false =
    λ b. elim b as (λ v. contains pages first ≡ v → v ≡ false) [
      | true ↦ λ there.
          let same = ap count (insert-contained pages first there) in
          let most = count-insert_all-le (insert pages first) added (within-insert pages first added within) in
          absurd (omega (arith, grown, same, most))
      | false ↦ λ absent. refl
    ] in
    by_flag (contains pages first) refl

-- removals in another order
remove-swap : (pages : List Bool) (a b : ℕ) → remove (remove pages a) b ≡ remove (remove pages b) a
remove-swap [] a b = refl
remove-swap (page ∷ pages) zero zero = refl
remove-swap (page ∷ pages) zero (suc b) = refl
remove-swap (page ∷ pages) (suc a) zero = refl
remove-swap (page ∷ pages) (suc a) (suc b) = ap (λ rest. page ∷ rest) (remove-swap pages a b)

remove-last : (pages : List Bool) (removed : List ℕ) (page : ℕ) → remove_all (remove pages page) removed ≡ remove (remove_all pages removed) page
remove-last pages [] page = refl
remove-last pages (first ∷ removed) page =
    ap (λ set. remove_all set removed) (remove-swap pages page first) ∙ remove-last (remove pages first) removed page

-- pages that were not there come and go
pub remove_all-insert_all : (pages : List Bool) (added : List ℕ) → All (λ page. page < length pages) added
    → count (insert_all pages added) ≡ count pages + length added → remove_all (insert_all pages added) added ≡ pages
remove_all-insert_all pages [] within grown = refl
remove_all-insert_all pages (first ∷ added) within grown =
    let absent = absent-first pages first added within grown in
    let one = count-insert pages first (All-head (λ page. page < length pages) first added within) absent in
    let rest = remove_all-insert_all (insert pages first) added (within-insert pages first added within) (omega (arith, grown, one)) in
    remove-last (insert_all (insert pages first) added) added first ∙ ap (λ set. remove set first) rest ∙ remove-insert pages first absent
