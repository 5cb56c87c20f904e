-- The greatest and the least pages of a set, one page, one block or all of the rest further on.
use Rattle.std.proofs.Common.{◌≡◌, ℕ, zero, suc, ◌+◌, ◌-◌, ◌*◌, ◌<◌, ◌≤◌, Bool, true, false, cond, List, [], ◌∷◌, ◌++◌, length, take, drop, reverse, get_or, min, refl, sym, ap, ◌∙◌, inl, inr, arith}
use Rattle.std.proofs.lemmas.List.{append-nil, reverse-append, length-take, take_all, take-take, take-append-le, drop-drop, drop-take, drop_more, drop_all, length_push, nil_from_length}
use Rattle.std.proofs.lemmas.List.Sums.{sum_by-append}
use Rattle.std.proofs.lemmas.Bool.{cases_lt}
use Rattle.std.proofs.Math.Seq.{take-add}
use Rattle.vm_pages.specs.Pages.{count, count_below, members, members_from}
use Rattle.vm_pages.specs.Extremes.{greatest_from, least_below}
use Rattle.vm_pages.specs.Blocks.{AreCounted}
use Rattle.vm_pages.proofs.Listings.{length-members_from}

-- a cut list grows while it is short, and not any more once it is full
take_push : (most : ℕ) (xs : List ℕ) (x : ℕ) → length (take most xs) < most → take most (xs ++ x ∷ []) ≡ take most xs ++ x ∷ []
take_push most xs x room =
    let short : length xs < most = omega (arith, length-take most xs) in
    rw (take_all most (xs ++ x ∷ []) (omega (arith, length_push xs x)), take_all most xs (omega arith)) refl

take_full : (most : ℕ) (xs ys : List ℕ) → most ≤ length (take most xs) → take most (xs ++ ys) ≡ take most xs
take_full most xs ys full = take-append-le most xs ys (omega (arith, length-take most xs))

-- the members among the first flags, and then those among the others
members_from-split : (first i : ℕ) (pages : List Bool) → members_from first pages ≡ members_from first (take i pages) ++ members_from (first + i) (drop i pages)
members_from-split first zero pages = ap (λ n. members_from n pages) (omega arith)
members_from-split first (suc i) [] = refl
members_from-split first (suc i) (true ∷ pages) =
    ap (λ l. first ∷ l)
    (members_from-split (first + 1) i pages ∙ ap (λ n. members_from (first + 1) (take i pages) ++ members_from n (drop i pages)) (omega arith))
members_from-split first (suc i) (false ∷ pages) =
    members_from-split (first + 1) i pages ∙ ap (λ n. members_from (first + 1) (take i pages) ++ members_from n (drop i pages)) (omega arith)

-- the members from one page on and below another
abbrev members_between : List Bool → ℕ → ℕ → List ℕ
members_between pages low high = members_from low (take (high - low) (drop low pages))

from_split : (pages : List Bool) (low high : ℕ) → low ≤ high → members_from low (drop low pages) ≡ members_between pages low high ++ members_from high (drop high pages)
from_split pages low high up =
    let place : low + (high - low) ≡ high = omega arith in
    members_from-split low (high - low) (drop low pages)
    ∙ ap (λ l. members_between pages low high ++ members_from (low + (high - low)) l) (drop-drop (high - low) low pages)
    ∙ ap (λ n. members_between pages low high ++ members_from n (drop n pages)) place

below_split : (pages : List Bool) (low high : ℕ) → low ≤ high → members (take high pages) ≡ members (take low pages) ++ members_between pages low high
below_split pages low high up =
    let place : low + (high - low) ≡ high = omega arith in
    let rest : drop low (take high pages) ≡ take (high - low) (drop low pages) = ap (λ n. drop low (take n pages)) (sym place) ∙ drop-take low (high - low) pages in
    members_from-split 0 low (take high pages)
    ∙ ap (λ l. members l ++ members_from (0 + low) (drop low (take high pages))) (take-take low high pages up)
    ∙ ap (λ l. members (take low pages) ++ members_from (0 + low) l) rest
    ∙ ap (λ n. members (take low pages) ++ members_from n (take (high - low) (drop low pages))) (omega arith)

members_between-one : (pages : List Bool) (page : ℕ) (mark : Bool) → page < length pages → get_or pages page false ≡ mark → members_between pages page (page + 1) ≡ members_from page (mark ∷ [])
members_between-one pages page mark there is =
    let one : page + 1 - page ≡ 1 = omega arith in
    rw (one, drop_more pages page false there, is) refl

members_between-none : (pages : List Bool) (low high : ℕ) → low ≤ high → count_below pages high ≡ count_below pages low → members_between pages low high ≡ []
members_between-none pages low high up same =
    let place : low + (high - low) ≡ high = omega arith in
    let whole : take high pages ≡ take low pages ++ take (high - low) (drop low pages) = ap (λ n. take n pages) (sym place) ∙ take-add low (high - low) pages in
    let parts : count_below pages high ≡ count_below pages low + count (take (high - low) (drop low pages)) = ap count whole ∙ sum_by-append (λ mark. cond mark 1 0) (take low pages) (take (high - low) (drop low pages)) in
    nil_from_length (members_between pages low high) (omega (arith, length-members_from low (take (high - low) (drop low pages))))

-- past the end is no page, so that a place past it may be cut to it
pub greatest_from-past : (pages : List Bool) (page most : ℕ) → length pages ≤ page → greatest_from pages page most ≡ []
unfolding greatest_from
greatest_from-past pages page most past = rw (drop_all page pages past) (take_all most [] (omega arith))

pub greatest_from-within : (pages : List Bool) (page end most : ℕ) → end ≡ min (length pages) page → greatest_from pages end most ≡ greatest_from pages page most
greatest_from-within pages page end most is =
    elim (cases_lt page (length pages)) [
      | inl below ↦ ap (λ p. greatest_from pages p most) (omega arith)
      | inr past ↦ greatest_from-past pages end most (omega arith) ∙ sym (greatest_from-past pages page most past)
    ]

pub greatest_from-same : (pages : List Bool) (page other most : ℕ) → min (length pages) page ≡ min (length pages) other → greatest_from pages page most ≡ greatest_from pages other most
greatest_from-same pages page other most same =
    sym (greatest_from-within pages page (min (length pages) page) most refl)
    ∙ ap (λ end. greatest_from pages end most) same
    ∙ greatest_from-within pages other (min (length pages) other) most refl

pub greatest_from-all : (pages : List Bool) (most : ℕ) → greatest_from pages 0 most ≡ take most (reverse (members pages))
unfolding greatest_from
greatest_from-all pages most = refl

-- one page further down
pub greatest_from-marked : (pages : List Bool) (page most : ℕ) → page < length pages → get_or pages page false ≡ true → length (greatest_from pages (page + 1) most) < most → greatest_from pages page most ≡ greatest_from pages (page + 1) most ++ page ∷ []
unfolding greatest_from
greatest_from-marked pages page most there marked room =
    rw (from_split pages page (page + 1) (omega arith), members_between-one pages page true there marked, reverse-append)
    (take_push most (reverse (members_from (page + 1) (drop (page + 1) pages))) page room)

pub greatest_from-unmarked : (pages : List Bool) (page most : ℕ) → page < length pages → get_or pages page false ≡ false → greatest_from pages page most ≡ greatest_from pages (page + 1) most
unfolding greatest_from
greatest_from-unmarked pages page most there unmarked =
    rw (from_split pages page (page + 1) (omega arith), members_between-one pages page false there unmarked) refl

-- a block with no page, and all that is below once the list is full
pub greatest_from-none : (pages : List Bool) (low high most : ℕ) → low ≤ high → count_below pages high ≡ count_below pages low → greatest_from pages low most ≡ greatest_from pages high most
unfolding greatest_from
greatest_from-none pages low high most up same = rw (from_split pages low high up, members_between-none pages low high up same) refl

pub greatest_from-full : (pages : List Bool) (low high most : ℕ) → low ≤ high → most ≤ length (greatest_from pages high most) → greatest_from pages low most ≡ greatest_from pages high most
unfolding greatest_from
greatest_from-full pages low high most up full =
    rw (from_split pages low high up, reverse-append)
    (take_full most (reverse (members_from high (drop high pages))) (reverse (members_between pages low high)) full)

-- the same of the least pages, upwards
pub least_below-start : (pages : List Bool) (most : ℕ) → least_below pages 0 most ≡ []
unfolding least_below
least_below-start pages most = take_all most [] (omega arith)

pub least_below-all : (pages : List Bool) (page most : ℕ) → length pages ≤ page → least_below pages page most ≡ take most (members pages)
unfolding least_below
least_below-all pages page most past = rw (take_all page pages past) refl

pub least_below-within : (pages : List Bool) (page end most : ℕ) → end ≡ min (length pages) page → least_below pages end most ≡ least_below pages page most
least_below-within pages page end most is =
    elim (cases_lt page (length pages)) [
      | inl below ↦ ap (λ p. least_below pages p most) (omega arith)
      | inr past ↦ least_below-all pages end most (omega arith) ∙ sym (least_below-all pages page most past)
    ]

pub least_below-same : (pages : List Bool) (page other most : ℕ) → min (length pages) page ≡ min (length pages) other → least_below pages page most ≡ least_below pages other most
least_below-same pages page other most same =
    sym (least_below-within pages page (min (length pages) page) most refl)
    ∙ ap (λ end. least_below pages end most) same
    ∙ least_below-within pages other (min (length pages) other) most refl

pub least_below-marked : (pages : List Bool) (page most : ℕ) → page < length pages → get_or pages page false ≡ true → length (least_below pages page most) < most → least_below pages (page + 1) most ≡ least_below pages page most ++ page ∷ []
unfolding least_below
least_below-marked pages page most there marked room =
    rw (below_split pages page (page + 1) (omega arith), members_between-one pages page true there marked) (take_push most (members (take page pages)) page room)

pub least_below-unmarked : (pages : List Bool) (page most : ℕ) → page < length pages → get_or pages page false ≡ false → least_below pages (page + 1) most ≡ least_below pages page most
unfolding least_below
least_below-unmarked pages page most there unmarked =
    rw (below_split pages page (page + 1) (omega arith), members_between-one pages page false there unmarked, append-nil) refl

pub least_below-none : (pages : List Bool) (low high most : ℕ) → low ≤ high → count_below pages high ≡ count_below pages low → least_below pages high most ≡ least_below pages low most
unfolding least_below
least_below-none pages low high most up same = rw (below_split pages low high up, members_between-none pages low high up same, append-nil) refl

pub least_below-full : (pages : List Bool) (low high most : ℕ) → low ≤ high → most ≤ length (least_below pages low most) → least_below pages high most ≡ least_below pages low most
unfolding least_below
least_below-full pages low high most up full =
    rw (below_split pages low high up) (take_full most (members (take low pages)) (members_between pages low high) full)

-- a block that counts no page has none
pub none_of_block : (pages : List Bool) (counts : List ℕ) (len block : ℕ) → AreCounted pages counts len → block < length counts → get_or counts block 0 ≤ 0 → count_below pages ((block + 1) * 2048) ≡ count_below pages (block * 2048)
none_of_block pages counts len block counted within none = omega (arith, counted.each block within)
