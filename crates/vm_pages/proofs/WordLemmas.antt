-- Pages that are marked by bits: which are, after a change too, and how many are in a word.
use Rattle.std.proofs.Common.{◌≡◌, ◌≢◌, ℕ, zero, suc, ◌+◌, ◌-◌, ◌*◌, ◌/◌, ◌%◌, ◌^◌, ◌++◌, [], bit_and, bit_or, count_ones, ◌<◌, ◌≤◌, Bool, true, false, eqb, cond, List, length, set, get_or, replicate, w64, refl, sym, ap, ◌∙◌, inl, inr, arith}
use Rattle.std.specs.Int.{bit_at}
use Rattle.std.proofs.lemmas.Bool.{cases_eq, cases_lt}
use Rattle.std.proofs.lemmas.List.{length-set, length-append, get_or-set_same, get_or-set_other, get_or-replicate, get_or_read, get_or_past, get_or_append_left, get_or-append_right, length-replicate}
use Rattle.std.proofs.lemmas.List.FromFn.{length-map-range_with_len, get_or-map-range_with_len}
use Rattle.std.proofs.lemmas.Nat.{ones_cat, mod-pow-add, mod_below, pow_pos}
use Rattle.std.proofs.lemmas.Nat.Bits.{bit_at-zero, bit_at-lt, bit_at_ones, bit_at_set_same, bit_at_set_other, bit_at_clear_same, bit_at_clear_other}
use lib.Count.{ones}
use Rattle.vm_pages.specs.Pages.{no_pages, all_pages, contains, insert, remove, count, count_below}
use Rattle.vm_pages.specs.Blocks.{AreCounted}
use Rattle.vm_pages.specs.Words.{is_marked, marked, AreKept}
use Rattle.vm_pages.proofs.BitLemmas.{ones-mono, ones-split}
use Rattle.vm_pages.proofs.PageSets.{same_pages, length-no_pages, length-all_pages, contains-no_pages, contains-all_pages, remove-absent}
use Rattle.vm_pages.proofs.Listings.{count_below_more, count_below_all}

pub length-marked : (words : List ℕ) (size : ℕ) → length (marked words size) ≡ size
unfolding marked
length-marked words size = length-map-range_with_len (is_marked words) 0 size

pub contains-marked : (words : List ℕ) (size page : ℕ) → page < size → contains (marked words size) page ≡ is_marked words page
unfolding marked
contains-marked words size page there = get_or-map-range_with_len (is_marked words) 0 size page page false there (omega arith)

-- words of zeros mark no page
get_or-zeros : (n i : ℕ) → get_or {A = ℕ} (replicate n 0) i 0 ≡ 0
get_or-zeros n i =
    elim (cases_lt i n) [
      | inl below ↦ get_or-replicate n i 0 0 below
      | inr past ↦ get_or_past (replicate n 0) i 0 (omega (arith, length-replicate {A = ℕ} n 0))
    ]

unmarked : (n page : ℕ) → is_marked (replicate n 0) page ≡ false
unmarked n page = ap (λ (word : ℕ). eqb (bit_at word (page % 64)) 1) (get_or-zeros n (page / 64)) ∙ ap (λ bit. eqb bit 1) (bit_at-zero (page % 64))

pub marked-none : (n size : ℕ) → marked (replicate n 0) size ≡ no_pages size
marked-none n size =
    same_pages (marked (replicate n 0) size) (no_pages size) (length-marked (replicate n 0) size ∙ sym (length-no_pages size))
    (λ page there. contains-marked (replicate n 0) size page (omega (arith, length-marked (replicate n 0) size)) ∙ unmarked n page ∙ sym (contains-no_pages size page))

-- no words mark no page
pub marked-nil : (size : ℕ) → marked [] size ≡ no_pages size
marked-nil size = marked-none 0 size

-- words that reach further, by zeros, mark the same pages
pub get_or-grown : (words : List ℕ) (n word : ℕ) → get_or (words ++ replicate n 0) word 0 ≡ get_or words word 0
get_or-grown words n word =
    elim (cases_lt word (length words)) [
      | inl below ↦ get_or_append_left words (replicate n 0) 0 word below
      | inr past ↦ get_or-append_right words (replicate n 0) (length words) word 0 refl past ∙ get_or-zeros n (word - length words) ∙ sym (get_or_past words word 0 past)
    ]

pub length-grown : (words : List ℕ) (n : ℕ) → length (words ++ replicate n 0) ≡ length words + n
length-grown words n = length-append words (replicate n 0) ∙ omega (arith, length-replicate {A = ℕ} n 0)

pub marked-grown : (words : List ℕ) (n size : ℕ) → marked (words ++ replicate n 0) size ≡ marked words size
marked-grown words n size =
    same_pages (marked after size) (marked words size) (length-marked after size ∙ sym (length-marked words size))
    (λ page there. let below : page < size = omega (arith, there, length-marked after size) in
    contains-marked after size page below ∙ ap (λ (word : ℕ). eqb (bit_at word (page % 64)) 1) (get_or-grown words n (page / 64)) ∙ sym (contains-marked words size page below))
  where
    after : List ℕ
    after = words ++ replicate n 0

-- a page past the words is not marked
pub remove-past : (words : List ℕ) (size page : ℕ) → length words ≤ page / 64 → remove (marked words size) page ≡ marked words size
remove-past words size page past = remove-absent (marked words size) page absent
  where
    no_word : is_marked words page ≡ false
    no_word = ap (λ (word : ℕ). eqb (bit_at word (page % 64)) 1) (get_or_past words (page / 64) 0 past) ∙ ap (λ bit. eqb bit 1) (bit_at-zero (page % 64))

    absent : contains (marked words size) page ≡ false
    absent =
        elim (cases_lt page size) [
          | inl below ↦ contains-marked words size page below ∙ no_word
          | inr above ↦ get_or_past (marked words size) page false (omega (arith, length-marked words size))
        ]

-- words of ones mark each page
pub marked-all : (n size : ℕ) → size ≤ n * 64 → marked (replicate n (2 ^ 64 - 1)) size ≡ all_pages size
marked-all n size marks =
    same_pages (marked words size) (all_pages size) (length-marked words size ∙ sym (length-all_pages size))
    (λ page there. let below : page < size = omega (arith, there, length-marked words size) in contains-marked words size page below ∙ one page below ∙ sym (contains-all_pages size page below))
  where
    words : List ℕ
    words = replicate n (2 ^ 64 - 1)

    one : (page : ℕ) → page < size → is_marked words page ≡ true
    one page below =
        ap (λ (word : ℕ). eqb (bit_at word (page % 64)) 1) (get_or-replicate n (page / 64) (2 ^ 64 - 1) 0 (omega (arith, marks, below)))
        ∙ ap (λ bit. eqb bit 1) (bit_at_ones 64 (page % 64) (omega arith))

-- a word that differs in the bit of one page
marked-set : (words : List ℕ) (size page word : ℕ) (mark : Bool) → page / 64 < length words
    → eqb (bit_at word (page % 64)) 1 ≡ mark
    → ((i : ℕ) → i < 64 → i ≢ page % 64 → bit_at word i ≡ bit_at (get_or words (page / 64) 0) i)
    → marked (set words (page / 64) word) size ≡ set (marked words size) page mark
marked-set words size page word mark there is others =
    same_pages (marked after size) (set (marked words size) page mark) (length-marked after size ∙ sym (length-set (marked words size) page mark ∙ length-marked words size))
    (λ other within. let below : other < size = omega (arith, length-marked after size) in contains-marked after size other below ∙ each other below)
  where
    after : List ℕ
    after = set words (page / 64) word

    here : get_or after (page / 64) 0 ≡ word
    here = get_or-set_same words (page / 64) word 0 there

    elsewhere : (other : ℕ) → other ≢ page → is_marked after other ≡ is_marked words other
    elsewhere other differs =
        elim (cases_eq (other / 64) (page / 64)) [
          | inl same ↦
              let apart : other % 64 ≢ page % 64 = λ e. differs (omega (arith, same, e)) in
              ap (λ w. eqb (bit_at (get_or after w 0) (other % 64)) 1) same
              ∙ ap (λ w. eqb (bit_at w (other % 64)) 1) here
              ∙ ap (λ bit. eqb bit 1) (others (other % 64) (omega arith) apart)
              ∙ ap (λ w. eqb (bit_at (get_or words w 0) (other % 64)) 1) (sym same)
          | inr differ ↦ ap (λ w. eqb (bit_at w (other % 64)) 1) (get_or-set_other words (page / 64) (other / 64) word 0 differ)
        ]

    each : (other : ℕ) → other < size → is_marked after other ≡ contains (set (marked words size) page mark) other
    each other below =
        elim (cases_eq other page) [
          | inl same ↦
              rw same
              (ap (λ w. eqb (bit_at w (page % 64)) 1) here
              ∙ is
              ∙ sym (get_or-set_same (marked words size) page mark false (omega (arith, length-marked words size, same))))
          | inr differs ↦ elsewhere other differs ∙ sym (get_or-set_other (marked words size) page other mark false differs ∙ contains-marked words size other below)
        ]

pub marked-insert : (words : List ℕ) (size page : ℕ) → page / 64 < length words
    → marked (set words (page / 64) (bit_or (get_or words (page / 64) 0) (1 * 2 ^ (page % 64) % 2 ^ 64))) size ≡ insert (marked words size) page
marked-insert words size page there =
    marked-set words size page _ true there (ap (λ bit. eqb bit 1) (bit_at_set_same w64 word (page % 64) (omega arith))) (λ i below apart. bit_at_set_other w64 word (page % 64) (omega arith) i apart)
  where
    word : ℕ
    word = get_or words (page / 64) 0

-- a page is marked in words that reach it first, where its word was read
pub marked-insert_grown : (words : List ℕ) (size page n read : ℕ) → page / 64 < length words + n → read ≡ get_or (words ++ replicate n 0) (page / 64) read
    → marked (set (words ++ replicate n 0) (page / 64) (bit_or read (1 * 2 ^ (page % 64) % 2 ^ 64))) size ≡ insert (marked words size) page
marked-insert_grown words size page n read there is =
    rw (get_or_read grown (page / 64) read reached is 0)
    (marked-insert grown size page reached ∙ ap (λ (pages : List Bool). insert pages page) (marked-grown words n size))
  where
    grown : List ℕ
    grown = words ++ replicate n 0

    reached : page / 64 < length grown
    reached = omega (arith, there, length-grown words n)

pub marked-remove : (words : List ℕ) (size page : ℕ) → page / 64 < length words
    → marked (set words (page / 64) (bit_and (get_or words (page / 64) 0) (2 ^ 64 - 1 - 1 * 2 ^ (page % 64) % 2 ^ 64))) size ≡ remove (marked words size) page
marked-remove words size page there =
    marked-set words size page _ false there (ap (λ bit. eqb bit 1) (bit_at_clear_same w64 word (page % 64) (omega arith))) (λ i below apart. bit_at_clear_other w64 word (page % 64) (omega arith) i below apart)
  where
    word : ℕ
    word = get_or words (page / 64) 0

pub marked-remove_read : (words : List ℕ) (size page read : ℕ) → page / 64 < length words → read ≡ get_or words (page / 64) read
    → marked (set words (page / 64) (bit_and read (2 ^ 64 - 1 - 1 * 2 ^ (page % 64) % 2 ^ 64))) size ≡ remove (marked words size) page
marked-remove_read words size page read there is = rw (get_or_read words (page / 64) read there is 0) (marked-remove words size page there)

-- one bit more of a word
ones-more : (word n : ℕ) → count_ones (word % 2 ^ (1 + n)) ≡ bit_at word n + count_ones (word % 2 ^ n)
unfolding ones
ones-more word n =
    ap count_ones (mod-pow-add word 1 n)
    ∙ ones_cat n (bit_at word n) (word % 2 ^ n) (mod_below word (2 ^ n) (pow_pos n))
    ∙ ap (λ bits. bits + count_ones (word % 2 ^ n)) (one_bit (bit_at word n) (bit_at-lt word n))
  where
    one_bit : (bit : ℕ) → bit < 2 → count_ones bit ≡ bit
    one_bit zero below = refl
    one_bit (suc zero) below = refl
    one_bit (suc (suc bit)) below = absurd (omega arith)

-- below a place in a word stand those below the word, and those that its bits there mark
pub count_below-bits : (words : List ℕ) (size word n : ℕ) → n ≤ 64 → word * 64 + n ≤ size
    → count_below (marked words size) (word * 64 + n) ≡ count_below (marked words size) (word * 64) + count_ones (get_or words word 0 % 2 ^ n)
unfolding ones
count_below-bits words size word zero few within = ap (λ page. count_below (marked words size) page) start ∙ omega (arith, none)
  where
    start : word * 64 + 0 ≡ word * 64
    start = omega arith

    no_bits : get_or words word 0 % 2 ^ 0 ≡ 0
    no_bits = omega arith

    none : count_ones (get_or words word 0 % 2 ^ 0) ≡ 0
    none = ap count_ones no_bits
count_below-bits words size word (suc n) few within =
    ap (λ page. count_below (marked words size) page) next
    ∙ count_below_more (marked words size) (word * 64 + n) (omega (arith, length-marked words size))
    ∙ omega (arith, count_below-bits words size word n (omega arith) (omega arith), one, rest)
  where
    next : word * 64 + suc n ≡ word * 64 + n + 1
    next = omega arith

    at_word : (word * 64 + n) / 64 ≡ word
    at_word = omega arith

    at_bit : (word * 64 + n) % 64 ≡ n
    at_bit = omega arith

    all : suc n ≡ 1 + n
    all = omega arith

    bit : ℕ
    bit = bit_at (get_or words word 0) n

    here : contains (marked words size) (word * 64 + n) ≡ eqb bit 1
    here =
        contains-marked words size (word * 64 + n) (omega arith)
        ∙ ap (λ w. eqb (bit_at (get_or words w 0) ((word * 64 + n) % 64)) 1) at_word
        ∙ ap (λ i. eqb (bit_at (get_or words word 0) i) 1) at_bit

    counted : (b : ℕ) → b < 2 → cond (eqb b 1) 1 0 ≡ b
    counted zero below = refl
    counted (suc zero) below = refl
    counted (suc (suc b)) below = absurd (omega arith)

    one : cond (contains (marked words size) (word * 64 + n)) 1 0 ≡ bit
    one = ap (λ m. cond m 1 0) here ∙ counted bit (bit_at-lt (get_or words word 0) n)

    rest : count_ones (get_or words word 0 % 2 ^ suc n) ≡ bit + count_ones (get_or words word 0 % 2 ^ n)
    rest = ap (λ k. count_ones (get_or words word 0 % 2 ^ k)) all ∙ ones-more (get_or words word 0) n

-- a whole word, and the end of the pages within one
pub count_below-word : (words : List ℕ) (size word : ℕ) → get_or words word 0 < 2 ^ 64 → (word + 1) * 64 ≤ size
    → count_below (marked words size) ((word + 1) * 64) ≡ count_below (marked words size) (word * 64) + count_ones (get_or words word 0)
unfolding ones
count_below-word words size word fits within = ap (λ page. count_below (marked words size) page) next ∙ count_below-bits words size word 64 (omega arith) (omega arith) ∙ ap (λ w. count_below (marked words size) (word * 64) + count_ones w) whole
  where
    next : (word + 1) * 64 ≡ word * 64 + 64
    next = omega arith

    whole : get_or words word 0 % 2 ^ 64 ≡ get_or words word 0
    whole = omega arith

-- where a place has at least as many marked pages before it as there are in a word, it is behind that word
pub word_passed : (words : List ℕ) (size word left place : ℕ) → get_or words word 0 < 2 ^ 64 → word * 64 < size
    → count_ones (get_or words word 0) ≤ left
    → count_below (marked words size) (word * 64) + left ≡ place → place < count (marked words size)
    → count_below (marked words size) ((word + 1) * 64) + (left - count_ones (get_or words word 0)) ≡ place
unfolding ones
word_passed words size word left place fits within full before there =
    elim (cases_lt size ((word + 1) * 64)) [
      | inr whole ↦ omega (arith, full, before, count_below-word words size word fits whole)
      | inl part ↦
          let end : word * 64 + (size - word * 64) ≡ size = omega arith in
          let all : count_below (marked words size) (word * 64 + (size - word * 64)) ≡ count (marked words size) = count_below_all (marked words size) _ (omega (arith, length-marked words size)) in
          absurd (omega (arith, all, full, before, there, count_below-bits words size word (size - word * 64) (omega arith) (omega arith), ones-split (get_or words word 0) (size - word * 64)))
    ]

-- the page at a set bit of a word
pub contains-bit : (words : List ℕ) (size word bit : ℕ) → bit < 64 → word * 64 + bit < size → bit_at (get_or words word 0) bit ≡ 1 → contains (marked words size) (word * 64 + bit) ≡ true
contains-bit words size word bit few inside set =
    contains-marked words size (word * 64 + bit) inside
    ∙ ap (λ w. eqb (bit_at (get_or words w 0) ((word * 64 + bit) % 64)) 1) at_word
    ∙ ap (λ i. eqb (bit_at (get_or words word 0) i) 1) at_bit
    ∙ ap (λ b. eqb b 1) set
  where
    at_word : (word * 64 + bit) / 64 ≡ word
    at_word = omega arith

    at_bit : (word * 64 + bit) % 64 ≡ bit
    at_bit = omega arith

-- the page at a place of a word is in the set, and `k` pages of that word stand before it
pub record IsPage (words : List ℕ) (size word place k : ℕ) : Type 0 where
  pub in_range : word * 64 + place < size
  pub there : contains (marked words size) (word * 64 + place) ≡ true
  pub before : count_below (marked words size) (word * 64 + place) ≡ count_below (marked words size) (word * 64) + k

-- the page at a set bit is, where `k` bits before that one are set and the set has more than `k` pages from the word on
pub is_page : (words : List ℕ) (size word place k : ℕ) → word * 64 < size → place < 64 → bit_at (get_or words word 0) place ≡ 1
    → count_ones (get_or words word 0 % 2 ^ place) ≡ k → count_below (marked words size) (word * 64) + k < count (marked words size) → IsPage words size word place k
is_page words size word place k begins few set is there = record {
  in_range = inside;
  there = contains-bit words size word place few inside set;
  before = count_below-bits words size word place (omega arith) (omega (arith, inside)) ∙ ap (λ ones. count_below (marked words size) (word * 64) + ones) is;
}
  where
    inside : word * 64 + place < size
    inside =
        elim (cases_lt (word * 64 + place) size) [
          | inl below ↦ below
          | inr past ↦
              let all : count_below (marked words size) (word * 64 + (size - word * 64)) ≡ count (marked words size) = count_below_all (marked words size) _ (omega (arith, length-marked words size)) in
              absurd (omega (arith, all, there, is, count_below-bits words size word (size - word * 64) (omega arith) (omega arith), ones-mono (get_or words word 0) (size - word * 64) place (omega arith)))
        ]

-- a set whose words and counts have changed alike
pub AreKept-after : (after : List ℕ) (room more size : ℕ) (counts : List ℕ) (len : ℕ) (pages : List Bool) → size ≤ room * 64 → room ≤ more
    → marked after size ≡ pages → AreCounted pages counts len → AreKept after more size counts len
AreKept-after after room more size counts len pages marks up is counted = record {
  marks = omega (arith, marks, up);
  counted = rw is counted;
}

-- the empty set
pub AreKept-none : (room size : ℕ) (counts : List ℕ) → size ≤ room * 64 → AreCounted (no_pages size) counts 0 → AreKept [] room size counts 0
AreKept-none room size counts marks counted = record {
  marks = marks;
  counted = rw (marked-nil size) counted;
}

-- there is room for the word of a page
pub has_room : (words : List ℕ) (room size page : ℕ) → size ≤ room * 64 → page < length (marked words size) → page / 64 < room
has_room words room size page marks there = omega (arith, marks, there, length-marked words size)

-- what is read of a page's bit is whether the set has it
pub read-marked : (words : List ℕ) (size page : ℕ) (mark : Bool) → page < length (marked words size) → mark ≡ is_marked words page → contains (marked words size) page ≡ mark
read-marked words size page mark there read = contains-marked words size page (omega (arith, there, length-marked words size)) ∙ sym read

-- the set of all pages
pub AreKept-all : (n room size : ℕ) (counts : List ℕ) → size ≤ n * 64 → n ≤ room → AreCounted (all_pages size) counts size → AreKept (replicate n (2 ^ 64 - 1)) room size counts size
AreKept-all n room size counts marks up counted = record {
  marks = omega (arith, marks, up);
  counted = rw (marked-all n size marks) counted;
}
