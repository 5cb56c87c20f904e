-- Pages of one word that come into a set or leave it together.
use Rattle.std.proofs.Common.{◌≡◌, ℕ, ◌+◌, ◌-◌, ◌/◌, ◌%◌, ◌<◌, ◌≤◌, zero, suc, Bool, true, false, eqb, cond, List, [], ◌∷◌, ◌++◌, length, take, replicate, set, get_or, refl, sym, ap, ◌∙◌, arith}
use Rattle.std.specs.Prelude.{All}
use Rattle.std.specs.Int.{bit_at}
use Rattle.std.proofs.lemmas.List.{length-set, set-set, set-get_or, get_or_read, get_or-set_same}
use Rattle.std.proofs.lemmas.List.Elements.{All-head, All-tail, All-take}
use Rattle.std.proofs.lemmas.List.Sums.{sum_by-set}
use Rattle.std.proofs.lemmas.Nat.Bits.{bit_at-lt}
use Rattle.vm_pages.specs.Pages.{contains, count, insert, insert_all, remove, remove_all}
use Rattle.vm_pages.specs.Words.{marked}
use Rattle.vm_pages.specs.Runs.{bits_gained, bits_lost, with_bit, with_bits, without_bit, without_bits}
use Rattle.vm_pages.proofs.PageSets.{count-insert_all-le, count-insert_all-short}
use Rattle.vm_pages.proofs.WordLemmas.{contains-marked, length-grown, length-marked, marked-grown, marked-insert, marked-remove, remove-past}

-- one more page comes, or goes
pub bits_gained-push : (word : ℕ) (pages : List ℕ) (page : ℕ) → bits_gained word (pages ++ page ∷ []) ≡ bits_gained word pages + (1 - bit_at (with_bits word pages) (page % 64))
bits_gained-push word [] page = omega arith
bits_gained-push word (first ∷ pages) page = omega (arith, bits_gained-push (with_bit word first) pages page)

pub bits_lost-push : (word : ℕ) (pages : List ℕ) (page : ℕ) → bits_lost word (pages ++ page ∷ []) ≡ bits_lost word pages + bit_at (without_bits word pages) (page % 64)
bits_lost-push word [] page = omega arith
bits_lost-push word (first ∷ pages) page = omega (arith, bits_lost-push (without_bit word first) pages page)

-- a page counts as its bit does
abbrev weight : Bool → ℕ
weight marked = cond marked 1 0

weight_of_bit : (bit : ℕ) → bit < 2 → weight (eqb bit 1) ≡ bit
weight_of_bit zero small = refl
weight_of_bit (suc zero) small = refl
weight_of_bit (suc (suc bit)) small = absurd (omega arith)

page_weight : (words : List ℕ) (size word page : ℕ) → page < size → page / 64 ≡ word → weight (contains (marked words size) page) ≡ bit_at (get_or words word 0) (page % 64)
page_weight words size word page there of_word =
    ap weight (contains-marked words size page there)
    ∙ weight_of_bit (bit_at (get_or words (page / 64) 0) (page % 64)) (bit_at-lt (get_or words (page / 64) 0) (page % 64))
    ∙ ap (λ (w : ℕ). bit_at (get_or words w 0) (page % 64)) of_word

-- one page of a word
insert_one : (words : List ℕ) (size word page : ℕ) → word < length words → page / 64 ≡ word → marked (set words word (with_bit (get_or words word 0) page)) size ≡ insert (marked words size) page
insert_one words size word page there of_word = rw of_word at (marked-insert words size page (rw of_word there))

remove_one : (words : List ℕ) (size word page : ℕ) → word < length words → page / 64 ≡ word → marked (set words word (without_bit (get_or words word 0) page)) size ≡ remove (marked words size) page
remove_one words size word page there of_word = rw of_word at (marked-remove words size page (rw of_word there))

one_gained : (words : List ℕ) (size word page : ℕ) → word < length words → page / 64 ≡ word → page < size
    → count (marked (set words word (with_bit (get_or words word 0) page)) size) ≡ count (marked words size) + (1 - bit_at (get_or words word 0) (page % 64))
one_gained words size word page there of_word within =
    omega (
      arith,
      ap count (insert_one words size word page there of_word),
      sum_by-set weight (marked words size) page true false (omega (arith, within, length-marked words size)),
      page_weight words size word page within of_word,
      bit_at-lt (get_or words word 0) (page % 64),
    )

one_lost : (words : List ℕ) (size word page : ℕ) → word < length words → page / 64 ≡ word → page < size
    → count (marked (set words word (without_bit (get_or words word 0) page)) size) + bit_at (get_or words word 0) (page % 64) ≡ count (marked words size)
one_lost words size word page there of_word within =
    omega (
      arith,
      ap count (remove_one words size word page there of_word),
      sum_by-set weight (marked words size) page false false (omega (arith, within, length-marked words size)),
      page_weight words size word page within of_word,
    )

-- pages of one word, one after the other
pub run_in : (words : List ℕ) (size word : ℕ) (pages : List ℕ) → word < length words → All (λ page. page / 64 ≡ word) pages
    → marked (set words word (with_bits (get_or words word 0) pages)) size ≡ insert_all (marked words size) pages
run_in words size word [] there same = ap (λ (w : List ℕ). marked w size) (set-get_or words word 0)
run_in words size word (page ∷ pages) there same =
    let first = with_bit (get_or words word 0) page in
    let is : get_or (set words word first) word 0 ≡ first = get_or-set_same words word first 0 there in
    let rest = rw is at (run_in (set words word first) size word pages (rw (length-set words word first) there) (All-tail (λ page. page / 64 ≡ word) page pages same)) in
    ap (λ (w : List ℕ). marked w size) (sym (set-set words word first (with_bits first pages)))
    ∙ rest
    ∙ ap (λ (set : List Bool). insert_all set pages) (insert_one words size word page there (All-head (λ page. page / 64 ≡ word) page pages same))

pub run_out : (words : List ℕ) (size word : ℕ) (pages : List ℕ) → word < length words → All (λ page. page / 64 ≡ word) pages
    → marked (set words word (without_bits (get_or words word 0) pages)) size ≡ remove_all (marked words size) pages
run_out words size word [] there same = ap (λ (w : List ℕ). marked w size) (set-get_or words word 0)
run_out words size word (page ∷ pages) there same =
    let first = without_bit (get_or words word 0) page in
    let is : get_or (set words word first) word 0 ≡ first = get_or-set_same words word first 0 there in
    let rest = rw is at (run_out (set words word first) size word pages (rw (length-set words word first) there) (All-tail (λ page. page / 64 ≡ word) page pages same)) in
    ap (λ (w : List ℕ). marked w size) (sym (set-set words word first (without_bits first pages)))
    ∙ rest
    ∙ ap (λ (set : List Bool). remove_all set pages) (remove_one words size word page there (All-head (λ page. page / 64 ≡ word) page pages same))

-- how many of them are new, or were there
pub run_gained : (words : List ℕ) (size word : ℕ) (pages : List ℕ) → word < length words → All (λ page. page / 64 ≡ word) pages → All (λ page. page < size) pages
    → count (marked (set words word (with_bits (get_or words word 0) pages)) size) ≡ count (marked words size) + bits_gained (get_or words word 0) pages
run_gained words size word [] there same in_range = omega (arith, ap (λ (w : List ℕ). count (marked w size)) (set-get_or words word 0))
run_gained words size word (page ∷ pages) there same in_range =
    let first = with_bit (get_or words word 0) page in
    let is : get_or (set words word first) word 0 ≡ first = get_or-set_same words word first 0 there in
    let rest = rw is at (run_gained (set words word first) size word pages (rw (length-set words word first) there) (All-tail (λ page. page / 64 ≡ word) page pages same) (All-tail (λ page. page < size) page pages in_range)) in
    omega (
      arith,
      ap (λ (w : List ℕ). count (marked w size)) (set-set words word first (with_bits first pages)),
      rest,
      one_gained words size word page there (All-head (λ page. page / 64 ≡ word) page pages same) (All-head (λ page. page < size) page pages in_range),
    )

pub run_lost : (words : List ℕ) (size word : ℕ) (pages : List ℕ) → word < length words → All (λ page. page / 64 ≡ word) pages → All (λ page. page < size) pages
    → count (marked (set words word (without_bits (get_or words word 0) pages)) size) + bits_lost (get_or words word 0) pages ≡ count (marked words size)
run_lost words size word [] there same in_range = omega (arith, ap (λ (w : List ℕ). count (marked w size)) (set-get_or words word 0))
run_lost words size word (page ∷ pages) there same in_range =
    let first = without_bit (get_or words word 0) page in
    let is : get_or (set words word first) word 0 ≡ first = get_or-set_same words word first 0 there in
    let rest = rw is at (run_lost (set words word first) size word pages (rw (length-set words word first) there) (All-tail (λ page. page / 64 ≡ word) page pages same) (All-tail (λ page. page < size) page pages in_range)) in
    omega (
      arith,
      ap (λ (w : List ℕ). count (marked w size)) (set-set words word first (without_bits first pages)),
      rest,
      one_lost words size word page there (All-head (λ page. page / 64 ≡ word) page pages same) (All-head (λ page. page < size) page pages in_range),
    )

-- words after pages of one of them have come in, or have left
pub record RunIn (words new run : List ℕ) (n : ℕ) : Type 0 where
  pub after : (size : ℕ) → marked new size ≡ insert_all (marked words size) run
  pub gained : (size : ℕ) → All (λ page. page < size) run → count (marked new size) ≡ count (marked words size) + n

pub record RunOut (words new run : List ℕ) (n : ℕ) : Type 0 where
  pub after : (size : ℕ) → marked new size ≡ remove_all (marked words size) run
  pub lost : (size : ℕ) → All (λ page. page < size) run → count (marked new size) + n ≡ count (marked words size)

-- where no fewer pages came than the run has, each of them is new
pub run_new : (words new run : List ℕ) (gained size : ℕ) → RunIn words new run gained → length run ≤ gained → All (λ page. page < size) run
    → count (marked new size) ≡ count (marked words size) + length run
run_new words new run gained size came all in_range =
    omega (
      arith,
      all,
      came.gained size in_range,
      ap count (came.after size),
      count-insert_all-le (marked words size) run (rw (length-marked words size) in_range),
    )

-- where fewer came, a list that begins with them has one that is not
pub run_short : (words new pages : List ℕ) (n gained size : ℕ) → RunIn words new (take n pages) gained → n ≤ length pages → gained < n → All (λ page. page < size) pages
    → count (insert_all (marked words size) pages) < count (marked words size) + length pages
run_short words new pages n gained size came within fewer in_range =
    count-insert_all-short (marked words size) pages n (rw (length-marked words size) in_range) within
    (omega (arith, fewer, ap count (came.after size), came.gained size (All-take (λ page. page < size) n pages in_range)))

-- where the words have to reach further, and the word was read
pub grown_in : (words : List ℕ) (n word read marks gained : ℕ) (run : List ℕ) → word < length words + n → read ≡ get_or (words ++ replicate n 0) word read
    → All (λ page. page / 64 ≡ word) run → marks ≡ with_bits read run → gained ≡ bits_gained read run → RunIn words (set (words ++ replicate n 0) word marks) run gained
grown_in words n word read marks gained run there is same marks_are gained_is = record {
  after = λ size. rw (marks_are, read_is) (run_in grown size word run reached same ∙ ap (λ (pages : List Bool). insert_all pages run) (marked-grown words n size));
  gained = λ size in_range.
      rw (marks_are, gained_is, read_is)
      (run_gained grown size word run reached same in_range ∙ ap (λ (pages : List Bool). count pages + bits_gained (get_or grown word 0) run) (marked-grown words n size));
}
  where
    grown : List ℕ
    grown = words ++ replicate n 0

    reached : word < length (words ++ replicate n 0)
    reached = omega (arith, there, length-grown words n)

    read_is : read ≡ get_or (words ++ replicate n 0) word 0
    read_is = get_or_read (words ++ replicate n 0) word read reached is 0

pub read_out : (words : List ℕ) (word read marks lost : ℕ) (run : List ℕ) → word < length words → read ≡ get_or words word read
    → All (λ page. page / 64 ≡ word) run → marks ≡ without_bits read run → lost ≡ bits_lost read run → RunOut words (set words word marks) run lost
read_out words word read marks lost run there is same marks_are lost_is = record {
  after = λ size. rw (marks_are, read_is) (run_out words size word run there same);
  lost = λ size in_range. rw (marks_are, lost_is, read_is) (run_lost words size word run there same in_range);
}
  where
    read_is : read ≡ get_or words word 0
    read_is = get_or_read words word read there is 0

-- the first page alone, whose word is past the others
pub first_alone : (pages : List ℕ) → 0 < length pages → All (λ page. page / 64 ≡ get_or pages 0 0 / 64) (take 1 pages)
first_alone [] some = absurd (omega arith)
first_alone (page ∷ pages) some = one
  where
    one : (k d : ℕ) → k < 1 → get_or (page ∷ []) k d / 64 ≡ page / 64
    one zero d within = refl
    one (suc k) d within = absurd (omega arith)

pub past_out : (words : List ℕ) (size : ℕ) (pages : List ℕ) → 0 < length pages → length words ≤ get_or pages 0 0 / 64 → marked words size ≡ remove_all (marked words size) (take 1 pages)
past_out words size [] some past = absurd (omega arith)
past_out words size (page ∷ pages) some past = sym (remove-past words size page past)
