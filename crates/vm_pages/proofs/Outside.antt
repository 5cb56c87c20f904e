-- The pages that are in neither of two sets, but for one that may be left out: by their words, and how many a block has.
use Rattle.std.proofs.Common.{◌≡◌, ◌≢◌, ℕ, zero, suc, ◌+◌, ◌-◌, ◌*◌, ◌/◌, ◌%◌, ◌^◌, ◌<◌, ◌≤◌, min, bit_and, Bool, true, false, not, ◌||◌, eqb, cond, List, [], ◌∷◌, Option, Some, None, length, map, take, reverse, get_or, w64, refl, sym, ap, ◌∙◌, subst, inl, inr, arith}
use Rattle.std.specs.List.{All, range_with_len}
use Rattle.std.specs.Int.{bit_at}
use Rattle.std.proofs.lemmas.Bool.{cases_eq, cases_lt, eq-eqb, ne_eqb}
use Rattle.std.proofs.lemmas.List.{set_past}
use Rattle.std.proofs.lemmas.List.Elements.{All-take}
use Rattle.std.proofs.lemmas.List.FromFn.{get_or-map-range_with_len}
use Rattle.std.proofs.lemmas.Nat.Bits.{bit_at_and, bit_at_not, bit_at-lt, bit_at_clear_same, bit_at_clear_other}
use Rattle.vm_pages.specs.Pages.{contains, remove, neither, without, count, count_below, members}
use Rattle.vm_pages.specs.Runs.{without_bit}
use Rattle.vm_pages.specs.Words.{is_marked, marked, outside_word}
use Rattle.vm_pages.specs.Extremes.{greatest_from}
use Rattle.vm_pages.specs.Blocks.{AreCounted}
use Rattle.vm_pages.proofs.PageSets.{same_pages, length-neither, length-without, contains-neither, contains-remove_same, contains-remove_other, count-cons}
use Rattle.vm_pages.proofs.Listings.{count_below-set, count_below-set_before, count_below_mono, All-reverse_members}
use Rattle.vm_pages.proofs.WordLemmas.{length-marked, contains-marked}

-- the pages that two sets of words leave
abbrev pub outside : List ℕ → List ℕ → Option ℕ → ℕ → List Bool
outside words others except size = without (neither (marked words size) (marked others size)) except

pub length-outside : (words others : List ℕ) (except : Option ℕ) (size : ℕ) → length (outside words others except size) ≡ size
length-outside words others except size =
    length-without (neither (marked words size) (marked others size)) except
    ∙ length-neither (marked words size) (marked others size) (length-marked words size ∙ sym (length-marked others size))
    ∙ length-marked words size

-- the bits of a word that two others leave
abbrev free_bits : ℕ → ℕ → ℕ
free_bits a b = bit_and (2 ^ 64 - 1 - a) (2 ^ 64 - 1 - b)

free_of : (a b : ℕ) → a < 2 → b < 2 → eqb (min (1 - a) (1 - b)) 1 ≡ not (eqb a 1 || eqb b 1)
free_of zero zero few fewer = refl
free_of zero (suc zero) few fewer = refl
free_of (suc zero) zero few fewer = refl
free_of (suc zero) (suc zero) few fewer = refl
free_of (suc (suc a)) b few fewer = absurd (omega arith)
free_of zero (suc (suc b)) few fewer = absurd (omega arith)
free_of (suc zero) (suc (suc b)) few fewer = absurd (omega arith)

free_bit : (a b i : ℕ) → a < 2 ^ 64 → b < 2 ^ 64 → i < 64 → eqb (bit_at (free_bits a b) i) 1 ≡ not (eqb (bit_at a i) 1 || eqb (bit_at b i) 1)
free_bit a b i few fewer within =
    ap (λ (bit : ℕ). eqb bit 1) (bit_at_and (2 ^ 64 - 1 - a) (2 ^ 64 - 1 - b) i)
    ∙ ap (λ (bit : ℕ). eqb (min bit (bit_at (2 ^ 64 - 1 - b) i)) 1) (bit_at_not w64 a i few within)
    ∙ ap (λ (bit : ℕ). eqb (min (1 - bit_at a i) bit) 1) (bit_at_not w64 b i fewer within)
    ∙ free_of (bit_at a i) (bit_at b i) (bit_at-lt a i) (bit_at-lt b i)

-- words are of 64 bits
abbrev pub AreWords : List ℕ → Type 0
AreWords words = (word : ℕ) → get_or words word 0 < 2 ^ 64

free_page : (words others : List ℕ) (size page : ℕ) → AreWords words → AreWords others → page < size
    → eqb (bit_at (free_bits (get_or words (page / 64) 0) (get_or others (page / 64) 0)) (page % 64)) 1 ≡ contains (neither (marked words size) (marked others size)) page
free_page words others size page few fewer there =
    free_bit (get_or words (page / 64) 0) (get_or others (page / 64) 0) (page % 64) (few (page / 64)) (fewer (page / 64)) (omega arith)
    ∙ ap (λ (one : Bool). not (one || is_marked others page)) (sym (contains-marked words size page there))
    ∙ ap (λ (one : Bool). not (contains (marked words size) page || one)) (sym (contains-marked others size page there))
    ∙ sym (contains-neither (marked words size) (marked others size) page (length-marked words size ∙ sym (length-marked others size)) (omega (arith, there, length-marked words size)))

-- a page's bit, where a page is left out
outside_bit : (words others : List ℕ) (except : Option ℕ) (size page : ℕ) → AreWords words → AreWords others → page < size
    → eqb (bit_at (outside_word words others except (page / 64)) (page % 64)) 1 ≡ contains (outside words others except size) page
unfolding outside_word
outside_bit words others None size page few fewer there = free_page words others size page few fewer there
outside_bit words others (Some left) size page few fewer there =
    elim (cases_eq (left / 64) (page / 64)) [
      | inr apart ↦
          let no : eqb (left / 64) (page / 64) ≡ false = ne_eqb (left / 64) (page / 64) apart in
          let other : page ≢ left = λ same. apart (ap (λ (p : ℕ). p / 64) (sym same)) in
          rw no (free_page words others size page few fewer there ∙ sym (contains-remove_other rest left page other))
      | inl of_word ↦
          let yes_word : eqb (left / 64) (page / 64) ≡ true = eq-eqb (left / 64) (page / 64) of_word in
          elim (cases_eq page left) [
            | inl same ↦
                rw yes_word
                (ap (λ (p : ℕ). eqb (bit_at (without_bit free left) (p % 64)) 1) same
                ∙ ap (λ (bit : ℕ). eqb bit 1) (bit_at_clear_same w64 free (left % 64) (omega arith))
                ∙ sym (ap (λ (p : ℕ). contains (remove rest left) p) same ∙ contains-remove_same rest left))
            | inr differs ↦
                let place : page % 64 ≢ left % 64 = λ same. differs (omega (arith, of_word, same)) in
                rw yes_word
                (ap (λ (bit : ℕ). eqb bit 1) (bit_at_clear_other w64 free (left % 64) (omega arith) (page % 64) (omega arith) place)
                ∙ free_page words others size page few fewer there
                ∙ sym (contains-remove_other rest left page differs))
          ]
    ]
  where
    free : ℕ
    free = free_bits (get_or words (page / 64) 0) (get_or others (page / 64) 0)

    rest : List Bool
    rest = neither (marked words size) (marked others size)

-- words that mark just these pages
abbrev outside_words : List ℕ → List ℕ → Option ℕ → ℕ → List ℕ
outside_words words others except size = map (outside_word words others except) (range_with_len 0 size)

word_outside : (words others : List ℕ) (except : Option ℕ) (size word : ℕ) → word < size → get_or (outside_words words others except size) word 0 ≡ outside_word words others except word
word_outside words others except size word there = get_or-map-range_with_len (outside_word words others except) 0 size word word 0 there (omega arith)

marked-outside : (words others : List ℕ) (except : Option ℕ) (size : ℕ) → AreWords words → AreWords others → marked (outside_words words others except size) size ≡ outside words others except size
marked-outside words others except size few fewer =
    same_pages (marked (outside_words words others except size) size) (outside words others except size)
    (length-marked (outside_words words others except size) size ∙ sym (length-outside words others except size))
    (λ page there.
    let below : page < size = omega (arith, there, length-marked (outside_words words others except size) size) in
    contains-marked (outside_words words others except size) size page below
    ∙ ap (λ (word : ℕ). eqb (bit_at word (page % 64)) 1) (word_outside words others except size (page / 64) (omega arith))
    ∙ outside_bit words others except size page few fewer below)

-- what lists the marks of any words lists these pages
pub outside_down : (words others : List ℕ) (except : Option ℕ) (size word most marks : ℕ) (old new : List ℕ) → AreWords words → AreWords others
    → ((all : List ℕ) (pages : ℕ) → word * 64 < pages → marks ≡ get_or all word 0 % 2 ^ min 64 (pages - word * 64)
    → old ≡ greatest_from (marked all pages) ((word + 1) * 64) most → new ≡ greatest_from (marked all pages) (word * 64) most)
    → word * 64 < size → marks ≡ outside_word words others except word % 2 ^ min 64 (size - word * 64)
    → old ≡ greatest_from (outside words others except size) ((word + 1) * 64) most → new ≡ greatest_from (outside words others except size) (word * 64) most
outside_down words others except size word most marks old new few fewer listed begins is before =
    listed (outside_words words others except size) size begins
    (is ∙ ap (λ (bits : ℕ). bits % 2 ^ min 64 (size - word * 64)) (sym (word_outside words others except size word (omega arith))))
    (before ∙ ap (λ (pages : List Bool). greatest_from pages ((word + 1) * 64) most) (sym same))
    ∙ ap (λ (pages : List Bool). greatest_from pages (word * 64) most) same
  where
    same : marked (outside_words words others except size) size ≡ outside words others except size
    same = marked-outside words others except size few fewer

-- sets with no page in common
abbrev pub AreApart : List Bool → List Bool → Type 0
AreApart pages others = (page : ℕ) → contains others page ≡ true → contains pages page ≡ false

one_of_three : (a b : Bool) → (b ≡ true → a ≡ false) → cond (not (a || b)) 1 0 + (cond a 1 0 + cond b 1 0) ≡ 1
one_of_three true true apart = let no : true ≡ false = apart refl in absurd (cc)
one_of_three true false apart = refl
one_of_three false true apart = refl
one_of_three false false apart = refl

count_below-neither : (pages others : List Bool) (place : ℕ) → length pages ≡ length others → AreApart pages others
    → count_below (neither pages others) place + (count_below pages place + count_below others place) ≡ min place (length pages)
count_below-neither pages others zero same apart = omega arith
count_below-neither [] [] (suc place) same apart = omega arith
count_below-neither [] (other ∷ others) (suc place) same apart = absurd (omega arith)
count_below-neither (page ∷ pages) [] (suc place) same apart = absurd (omega arith)
count_below-neither (page ∷ pages) (other ∷ others) (suc place) same apart =
    omega (
      arith,
      count-cons (not (page || other)) (take place (neither pages others)),
      count-cons page (take place pages),
      count-cons other (take place others),
      count_below-neither pages others place (omega arith) (λ p. apart (suc p)),
      one_of_three page other (apart 0),
    )

-- a block of the counts `a` and `b` has so many pages of neither set as these leave of its pages
pub record BlockOutside (pages others : List Bool) (except : Option ℕ) (block a b all : ℕ) : Type 0 where
  pub few : a + b ≤ all
  pub none : all ≤ a + b → count_below (without (neither pages others) except) ((block + 1) * 2048) ≡ count_below (without (neither pages others) except) (block * 2048)

-- a part without pages of a set has none either once a page is left out
count_below-without : (pages : List Bool) (except : Option ℕ) (low high : ℕ) → low ≤ high → count_below pages high ≡ count_below pages low
    → count_below (without pages except) high ≡ count_below (without pages except) low
count_below-without pages None low high up none = none
count_below-without pages (Some page) low high up none =
    elim (cases_lt page (length pages)) [
      | inr past ↦ rw (set_past pages page false past) none
      | inl there ↦
          elim (cases_lt page high) [
            | inr above ↦ omega (arith, none, count_below-set_before pages page high false above, count_below-set_before pages page low false (omega arith))
            | inl below ↦
                elim (cases_lt page low) [
                  | inl lower ↦ omega (arith, none, count_below-set pages page high false there below, count_below-set pages page low false there lower)
                  | inr within ↦
                      omega (arith, none, count_below-set pages page high false there below, count_below-set_before pages page low false within, count_below_mono (remove pages page) low high up)
                ]
          ]
    ]

pub block_outside : (pages others : List Bool) (counts other_counts : List ℕ) (len other_len : ℕ) (except : Option ℕ) (block all : ℕ) → AreCounted pages counts len → AreCounted others other_counts other_len
    → length pages ≡ length others → AreApart pages others → block * 2048 < length pages → all ≡ min (length pages - block * 2048) 2048
    → BlockOutside pages others except block (get_or counts block 0) (get_or other_counts block 0) all
block_outside pages others counts other_counts len other_len except block all counted other_counted same apart begins is = record {
  few = omega (arith, parts, rises);
  none = λ full. count_below-without (neither pages others) except (block * 2048) ((block + 1) * 2048) (omega arith) (omega (arith, parts, rises, full));
}
  where
    rises : count_below (neither pages others) (block * 2048) ≤ count_below (neither pages others) ((block + 1) * 2048)
    rises = count_below_mono (neither pages others) (block * 2048) ((block + 1) * 2048) (omega arith)

    parts : count_below (neither pages others) ((block + 1) * 2048) + (get_or counts block 0 + get_or other_counts block 0) ≡ count_below (neither pages others) (block * 2048) + all
    parts =
        omega (
          arith,
          is,
          counted.each block (omega (arith, begins, counted.blocks)),
          other_counted.each block (omega (arith, begins, same, other_counted.blocks)),
          count_below-neither pages others (block * 2048) same apart,
          count_below-neither pages others ((block + 1) * 2048) same apart,
        )

-- two sets of a guest's pages, of which one is kept with a size of its own
pub same_size : (words others : List ℕ) (size other_size : ℕ) (pages other_pages : List Bool) → marked words size ≡ pages → marked others other_size ≡ other_pages
    → length other_pages ≡ length pages → marked others size ≡ other_pages
same_size words others size other_size pages other_pages is other_is same = ap (λ (n : ℕ). marked others n) sizes ∙ other_is
  where
    sizes : size ≡ other_size
    sizes = omega (arith, same, ap length is, ap length other_is, length-marked words size, length-marked others other_size)

pub counted_of : (pages other : List Bool) (counts : List ℕ) (len : ℕ) → AreCounted pages counts len → pages ≡ other → AreCounted other counts (count other)
counted_of pages other counts len counted is =
    subst (λ (set : List Bool). AreCounted set counts (count set)) is (subst (λ (n : ℕ). AreCounted pages counts n) counted.all counted)

-- the listing has pages of the guest alone
pub All-outside : (pages others : List Bool) (except : Option ℕ) (most : ℕ) → length others ≡ length pages
    → All (λ page. page < length pages) (take most (reverse (members (without (neither pages others) except))))
All-outside pages others except most same =
    let size : length (without (neither pages others) except) ≡ length pages = length-without (neither pages others) except ∙ length-neither pages others (sym same) in
    All-take (λ page. page < length pages) most _ (rw size at (All-reverse_members (without (neither pages others) except)))
