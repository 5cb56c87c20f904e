-- Marks whose words lie in a table.
use Rattle.std.proofs.Common.{◌≡◌, ℕ, ◌-◌, ◌*◌, ◌/◌, ◌%◌, ◌^◌, ◌<◌, ◌≤◌, ◌==◌, List, length, set, get_or, bit_and, bit_or, refl, sym, ap, ◌∙◌, arith}
use Rattle.std.specs.Prelude.{All}
use Rattle.std.specs.Int.{bit_at}
use Rattle.std.proofs.Math.ListN.{length-set}
use Rattle.std.proofs.lemmas.List.{length-replicate}
use Rattle.std.proofs.lemmas.Nat.{and_mask}
use Rattle.vm_pages.specs.PageTable.{Items, first_items, with_item, AreWords}
use Rattle.vm_pages.specs.Pages.{contains, insert, insert_all, remove, remove_all}
use Rattle.vm_pages.specs.Runs.{with_bits, without_bits}
use Rattle.vm_pages.specs.Words.{marked}
use Rattle.vm_pages.proofs.RunLemmas.{run_in, run_out}
use Rattle.vm_pages.proofs.WordLemmas.{contains-marked, length-marked, marked-insert, marked-remove}

-- a page's word is in the table
pub word_there : (size page : ℕ) (words : Items ℕ) → AreWords size words → page < length (marked words.list size) → page / 64 < length words.list
word_there size page words are there = omega (arith, are.marks, there, length-marked words.list size)

-- no word has a bit
pub AreWords-none : (size count : ℕ) → size ≤ count * 64 → AreWords size (first_items 0 count)
AreWords-none size count marks = record {
  marks = omega (arith, marks, length-replicate {A = ℕ} count 0);
  from_zero = refl;
}

-- so many marks, whatever the words are
pub same_length : (new old : List ℕ) (size : ℕ) → length (marked new size) ≡ length (marked old size)
same_length new old size = length-marked new size ∙ sym (length-marked old size)

-- another word in its place
pub AreWords-set : (size word marks : ℕ) (words : Items ℕ) → AreWords size words → AreWords size (with_item words word marks)
AreWords-set size word marks words are = record {
  marks = rw (length-set words.list word marks) are.marks;
  from_zero = are.from_zero;
}

-- the marks once a page is marked, and once its mark is taken away
pub inserted : (size page : ℕ) (words : Items ℕ) → AreWords size words → page < length (marked words.list size)
    → marked (set words.list (page / 64) (bit_or (get_or words.list (page / 64) words.first) (1 * 2 ^ (page % 64) % 2 ^ 64))) size ≡ insert (marked words.list size) page
inserted size page words are there = rw are.from_zero (marked-insert words.list size page (word_there size page words are there))

pub removed : (size page : ℕ) (words : Items ℕ) → AreWords size words → page < length (marked words.list size)
    → marked (set words.list (page / 64) (bit_and (get_or words.list (page / 64) words.first) (2 ^ 64 - 1 - 1 * 2 ^ (page % 64) % 2 ^ 64))) size ≡ remove (marked words.list size) page
removed size page words are there = rw are.from_zero (marked-remove words.list size page (word_there size page words are there))

-- the same of pages of one word
pub all_inserted : (size word : ℕ) (words : Items ℕ) (pages : List ℕ) → AreWords size words → word < length words.list → All (λ page. page / 64 ≡ word) pages
    → marked (set words.list word (with_bits (get_or words.list word words.first) pages)) size ≡ insert_all (marked words.list size) pages
all_inserted size word words pages are there same = rw are.from_zero (run_in words.list size word pages there same)

pub all_removed : (size word : ℕ) (words : Items ℕ) (pages : List ℕ) → AreWords size words → word < length words.list → All (λ page. page / 64 ≡ word) pages
    → marked (set words.list word (without_bits (get_or words.list word words.first) pages)) size ≡ remove_all (marked words.list size) pages
all_removed size word words pages are there same = rw are.from_zero (run_out words.list size word pages there same)

-- whether a page is marked is what its bit says
pub bit_read : (size page : ℕ) (words : Items ℕ) → AreWords size words → page < length (marked words.list size)
    → (bit_and (get_or words.list (page / 64) words.first / 2 ^ (page % 64)) 1 == 1) ≡ contains (marked words.list size) page
bit_read size page words are there =
    ap (λ (n : ℕ). n == 1) (and_mask (get_or words.list (page / 64) words.first / 2 ^ (page % 64)) 1)
    ∙ ap (λ (first : ℕ). bit_at (get_or words.list (page / 64) first) (page % 64) == 1) are.from_zero
    ∙ sym (contains-marked words.list size page (omega (arith, there, length-marked words.list size)))
