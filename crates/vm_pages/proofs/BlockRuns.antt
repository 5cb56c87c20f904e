-- The counts of the blocks, after pages of one block have changed together.
use Rattle.std.proofs.Common.{◌≡◌, ℕ, ◌+◌, ◌-◌, ◌*◌, ◌/◌, ◌^◌, ◌<◌, ◌≤◌, Bool, true, false, cond, List, [], ◌∷◌, length, take, set, get_or, Fits, w32, refl, sym, ap, inl, inr, ◌∙◌, arith}
use Rattle.std.specs.Prelude.{All, fold}
use Rattle.std.proofs.lemmas.List.{get_or_read, length-set, get_or-set_other, get_or-set_same}
use Rattle.std.proofs.lemmas.List.Elements.{All-head, All-tail, All-take}
use Rattle.std.proofs.lemmas.List.Sums.{sum_by-set}
use Rattle.std.proofs.lemmas.Bool.{cases_eq, cases_lt}
use Rattle.vm_pages.specs.Pages.{count, count_below, insert_all, remove_all}
use Rattle.vm_pages.specs.Blocks.{AreCounted}
use Rattle.vm_pages.specs.Words.{marked, AreKept}
use Rattle.vm_pages.proofs.PageSets.{count-le-length}
use Rattle.vm_pages.proofs.Listings.{count_below-set, count_below-set_before, count_below_mono}
use Rattle.vm_pages.proofs.BlockLemmas.{block-le-count}
use Rattle.vm_pages.proofs.WordLemmas.{length-marked, AreKept-after}

abbrev weight : Bool → ℕ
weight marked = cond marked 1 0

-- the set with all of some pages, or without them
abbrev changed_all : Bool → List Bool → List ℕ → List Bool
changed_all mark pages changed = fold (λ (all : List Bool) (page : ℕ). set all page mark) pages changed

length-changed : (mark : Bool) (pages : List Bool) (changed : List ℕ) → length (changed_all mark pages changed) ≡ length pages
length-changed mark pages [] = refl
length-changed mark pages (page ∷ changed) = length-changed mark (set pages page mark) changed ∙ length-set pages page mark

-- below them as many stand as before, and behind them the difference is that of the sets
changed_before : (mark : Bool) (pages : List Bool) (changed : List ℕ) (place : ℕ) → All (λ page. place ≤ page) changed
    → count_below (changed_all mark pages changed) place ≡ count_below pages place
changed_before mark pages [] place above = refl
changed_before mark pages (page ∷ changed) place above =
    changed_before mark (set pages page mark) changed place (All-tail (λ page. place ≤ page) page changed above)
    ∙ count_below-set_before pages page place mark (All-head (λ page. place ≤ page) page changed above)

changed_behind : (mark : Bool) (pages : List Bool) (changed : List ℕ) (place : ℕ) → All (λ page. page < length pages) changed → All (λ page. page < place) changed
    → count_below (changed_all mark pages changed) place + count pages ≡ count_below pages place + count (changed_all mark pages changed)
changed_behind mark pages [] place in_range below = refl
changed_behind mark pages (page ∷ changed) place in_range below =
    let there = All-head (λ page. page < length pages) page changed in_range in
    let others = All-tail (λ page. page < length pages) page changed in_range in
    let rest = changed_behind mark (set pages page mark) changed place (λ k d within. omega (arith, length-set pages page mark, others k d within)) (All-tail (λ page. page < place) page changed below) in
    omega (arith, rest, count_below-set pages page place mark there (All-head (λ page. page < place) page changed below), sum_by-set weight pages page mark false there)

-- the counts before and behind a block, of which pages change
record BlockChanged (pages : List Bool) (block : ℕ) (after : List Bool) : Type 0 where
  before : (place : ℕ) → place ≤ block * 2048 → count_below after place ≡ count_below pages place
  behind : (place : ℕ) → (block + 1) * 2048 ≤ place → count_below after place + count pages ≡ count_below pages place + count after
  long : length after ≡ length pages

block_changed : (mark : Bool) (pages : List Bool) (block : ℕ) (changed : List ℕ) → All (λ page. page < length pages) changed → All (λ page. page / 2048 ≡ block) changed
    → BlockChanged pages block (changed_all mark pages changed)
block_changed mark pages block changed in_range same = record {
  before = λ place low. changed_before mark pages changed place (λ k d within. omega (arith, same k d within, low));
  behind = λ place high. changed_behind mark pages changed place in_range (λ k d within. omega (arith, same k d within, high));
  long = length-changed mark pages changed;
}

AreCounted-block : (pages : List Bool) (counts : List ℕ) (len block n : ℕ) (after : List Bool) → AreCounted pages counts len → block < length counts → BlockChanged pages block after
    → n + count pages ≡ get_or counts block 0 + count after → AreCounted after (set counts block n) (count after)
AreCounted-block pages counts len block n after counted slot changed is = record {
  blocks = omega (arith, counted.blocks, changed.long, length-set counts block n);
  few = omega (arith, counted.few, changed.long, length-set counts block n);
  each = λ b within. each_after b (omega (arith, within, length-set counts block n));
  all = refl;
  fits = omega (arith, counted.fits, changed.long);
}
  where
    here : count_below after (block * 2048) + get_or (set counts block n) block 0 ≡ count_below after ((block + 1) * 2048)
    here = omega (arith, is, counted.each block slot, changed.before (block * 2048) (omega arith), changed.behind ((block + 1) * 2048) (omega arith), get_or-set_same counts block n 0 slot)

    each_after : (b : ℕ) → b < length counts → count_below after (b * 2048) + get_or (set counts block n) b 0 ≡ count_below after ((b + 1) * 2048)
    each_after b within =
        elim (cases_eq b block) [
          | inl same ↦ rw same here
          | inr other ↦
              elim (cases_lt b block) [
                | inl below ↦ omega (arith, counted.each b within, get_or-set_other counts block b n 0 other, changed.before (b * 2048) (omega arith), changed.before ((b + 1) * 2048) (omega arith))
                | inr above ↦ omega (arith, counted.each b within, get_or-set_other counts block b n 0 other, changed.behind (b * 2048) (omega arith), changed.behind ((b + 1) * 2048) (omega arith))
              ]
        ]

-- what a set keeps when pages of one word come in, where the count of their block is `n`
pub record RunCame (pages : List Bool) (counts : List ℕ) (len block n gained : ℕ) (came : List ℕ) : Type 0 where
  pub block_fits : Fits w32 (n + gained)
  pub len_fits : Fits w32 (len + gained)
  pub counted : AreCounted (insert_all pages came) (set counts block (n + gained)) (len + gained)

pub run_came : (pages : List Bool) (counts : List ℕ) (len first n gained : ℕ) (came : List ℕ) → AreCounted pages counts len → first < length pages
    → All (λ page. page < length pages) came → All (λ page. page / 64 ≡ first / 64) came → n ≡ get_or counts (first / 2048) n
    → count (insert_all pages came) ≡ count pages + gained → RunCame pages counts len (first / 2048) n gained came
run_came pages counts len first n gained came counted there in_range same n_read is = record {
  block_fits = omega (arith, size_fits, block-le-count (insert_all pages came) (set counts (first / 2048) (n + gained)) (count (insert_all pages came)) (first / 2048) counts_after (omega (arith, slot, length-set counts (first / 2048) (n + gained))), get_or-set_same counts (first / 2048) (n + gained) 0 slot);
  len_fits = omega (arith, len_is, size_fits);
  counted = rw len_is counts_after;
}
  where
    slot : first / 2048 < length counts
    slot = omega (arith, there, counted.blocks)

    n_is : n ≡ get_or counts (first / 2048) 0
    n_is = get_or_read counts (first / 2048) n slot n_read 0

    len_is : len + gained ≡ count (insert_all pages came)
    len_is = omega (arith, is, counted.all)

    changed : BlockChanged pages (first / 2048) (insert_all pages came)
    changed = block_changed true pages (first / 2048) came in_range (λ k d within. omega (arith, same k d within))

    size_fits : count (insert_all pages came) < 2 ^ 32
    size_fits = omega (arith, count-le-length (insert_all pages came), changed.long, counted.fits)

    counts_after : AreCounted (insert_all pages came) (set counts (first / 2048) (n + gained)) (count (insert_all pages came))
    counts_after = AreCounted-block pages counts len (first / 2048) (n + gained) (insert_all pages came) counted slot changed (omega (arith, is, n_is))

-- the same when they leave
pub record RunWent (pages : List Bool) (counts : List ℕ) (len block n lost : ℕ) (went : List ℕ) : Type 0 where
  pub of_block : lost ≤ n
  pub of_set : lost ≤ len
  pub counted : AreCounted (remove_all pages went) (set counts block (n - lost)) (len - lost)

pub run_went : (pages : List Bool) (counts : List ℕ) (len first n lost : ℕ) (went : List ℕ) → AreCounted pages counts len → first < length pages
    → All (λ page. page < length pages) went → All (λ page. page / 64 ≡ first / 64) went → n ≡ get_or counts (first / 2048) n
    → count (remove_all pages went) + lost ≡ count pages → RunWent pages counts len (first / 2048) n lost went
run_went pages counts len first n lost went counted there in_range same n_read is = record {
  of_block = of_block;
  of_set = omega (arith, is, counted.all);
  counted = rw len_is counts_after;
}
  where
    slot : first / 2048 < length counts
    slot = omega (arith, there, counted.blocks)

    n_is : n ≡ get_or counts (first / 2048) 0
    n_is = get_or_read counts (first / 2048) n slot n_read 0

    len_is : len - lost ≡ count (remove_all pages went)
    len_is = omega (arith, is, counted.all)

    changed : BlockChanged pages (first / 2048) (remove_all pages went)
    changed = block_changed false pages (first / 2048) went in_range (λ k d within. omega (arith, same k d within))

    of_block : lost ≤ n
    of_block =
        omega (
          arith,
          is,
          n_is,
          counted.each (first / 2048) slot,
          changed.before (first / 2048 * 2048) (omega arith),
          changed.behind ((first / 2048 + 1) * 2048) (omega arith),
          count_below_mono (remove_all pages went) (first / 2048 * 2048) ((first / 2048 + 1) * 2048) (omega arith),
        )

    counts_after : AreCounted (remove_all pages went) (set counts (first / 2048) (n - lost)) (count (remove_all pages went))
    counts_after = AreCounted-block pages counts len (first / 2048) (n - lost) (remove_all pages went) counted slot changed (omega (arith, is, n_is, of_block))

-- what a set keeps of its words too, where a list begins with these pages
pub record SetRunIn (after : List ℕ) (room size : ℕ) (counts : List ℕ) (len block n gained : ℕ) : Type 0 where
  pub block_fits : Fits w32 (n + gained)
  pub len_fits : Fits w32 (len + gained)
  pub kept : AreKept after room size (set counts block (n + gained)) (len + gained)

pub set_run_in : (words after : List ℕ) (room more size : ℕ) (counts : List ℕ) (len : ℕ) (pages : List ℕ) (run n gained : ℕ) → AreKept words room size counts len → room ≤ more
    → 0 < length pages → All (λ page. page < length (marked words size)) pages → All (λ page. page / 64 ≡ get_or pages 0 0 / 64) (take run pages)
    → n ≡ get_or counts (get_or pages 0 0 / 2048) n → marked after size ≡ insert_all (marked words size) (take run pages)
    → (All (λ page. page < size) (take run pages) → count (marked after size) ≡ count (marked words size) + gained)
    → SetRunIn after more size counts len (get_or pages 0 0 / 2048) n gained
set_run_in words after room more size counts len pages run n gained kept up some in_range same n_read is gained_is = record {
  block_fits = came.block_fits;
  len_fits = came.len_fits;
  kept = AreKept-after after room more size _ _ _ kept.marks up is came.counted;
}
  where
    in_size : All (λ page. page < size) (take run pages)
    in_size = All-take (λ page. page < size) run pages (rw (length-marked words size) at in_range)

    came : RunCame (marked words size) counts len (get_or pages 0 0 / 2048) n gained (take run pages)
    came =
        run_came (marked words size) counts len (get_or pages 0 0) n gained (take run pages) kept.counted (in_range 0 0 some)
        (All-take (λ page. page < length (marked words size)) run pages in_range) same n_read (ap count (sym is) ∙ gained_is in_size)

pub record SetRunOut (after : List ℕ) (room size : ℕ) (counts : List ℕ) (len block n lost : ℕ) : Type 0 where
  pub of_block : lost ≤ n
  pub of_set : lost ≤ len
  pub kept : AreKept after room size (set counts block (n - lost)) (len - lost)

pub set_run_out : (words after : List ℕ) (room more size : ℕ) (counts : List ℕ) (len : ℕ) (pages : List ℕ) (run n lost : ℕ) → AreKept words room size counts len → room ≤ more
    → 0 < length pages → All (λ page. page < length (marked words size)) pages → All (λ page. page / 64 ≡ get_or pages 0 0 / 64) (take run pages)
    → n ≡ get_or counts (get_or pages 0 0 / 2048) n → marked after size ≡ remove_all (marked words size) (take run pages)
    → (All (λ page. page < size) (take run pages) → count (marked after size) + lost ≡ count (marked words size))
    → SetRunOut after more size counts len (get_or pages 0 0 / 2048) n lost
set_run_out words after room more size counts len pages run n lost kept up some in_range same n_read is lost_is = record {
  of_block = went.of_block;
  of_set = went.of_set;
  kept = AreKept-after after room more size _ _ _ kept.marks up is went.counted;
}
  where
    in_size : All (λ page. page < size) (take run pages)
    in_size = All-take (λ page. page < size) run pages (rw (length-marked words size) at in_range)

    went : RunWent (marked words size) counts len (get_or pages 0 0 / 2048) n lost (take run pages)
    went =
        run_went (marked words size) counts len (get_or pages 0 0) n lost (take run pages) kept.counted (in_range 0 0 some)
        (All-take (λ page. page < length (marked words size)) run pages in_range) same n_read (ap (λ (pages : List Bool). count pages + lost) (sym is) ∙ lost_is in_size)

-- they are no more than 32 bits count
pub gained_few : (words after : List ℕ) (room size : ℕ) (counts : List ℕ) (len : ℕ) (pages : List ℕ) (run gained : ℕ) → AreKept words room size counts len → All (λ page. page < length (marked words size)) pages
    → (All (λ page. page < size) (take run pages) → count (marked after size) ≡ count (marked words size) + gained) → gained < 2 ^ 32
gained_few words after room size counts len pages run gained kept in_range is =
    omega (arith, is (All-take (λ page. page < size) run pages (rw (length-marked words size) at in_range)), count-le-length (marked after size), length-marked after size, length-marked words size, kept.counted.fits)

pub lost_few : (words after : List ℕ) (room size : ℕ) (counts : List ℕ) (len : ℕ) (pages : List ℕ) (run lost : ℕ) → AreKept words room size counts len → All (λ page. page < length (marked words size)) pages
    → (All (λ page. page < size) (take run pages) → count (marked after size) + lost ≡ count (marked words size)) → lost < 2 ^ 32
lost_few words after room size counts len pages run lost kept in_range is =
    omega (arith, is (All-take (λ page. page < size) run pages (rw (length-marked words size) at in_range)), count-le-length (marked words size), kept.counted.fits)

-- the block of the first page has a count
pub first_block : (words : List ℕ) (room size : ℕ) (counts : List ℕ) (len : ℕ) (pages : List ℕ) → AreKept words room size counts len → 0 < length pages
    → All (λ page. page < length (marked words size)) pages → get_or pages 0 0 / 2048 < length counts
first_block words room size counts len pages kept some in_range = omega (arith, in_range 0 0 some, kept.counted.blocks)
