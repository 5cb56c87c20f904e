-- The counts of the blocks, after one flag has changed.
use Rattle.std.proofs.Common.{◌≡◌, ℕ, zero, suc, ◌+◌, ◌-◌, ◌*◌, ◌/◌, ◌%◌, ◌^◌, min, ◌<◌, ◌≤◌, Bool, true, false, cond, List, length, take, set, get_or, replicate, sum, Fits, w32, refl, sym, ap, ◌∙◌, inl, inr, add-one, arith}
use Rattle.std.proofs.lemmas.List.{take_all, take-replicate, get_or_read, length-set, length-replicate, get_or-set_other, get_or-set_same, get_or-replicate}
use Rattle.std.proofs.lemmas.Bool.{cases_eq, cases_lt}
use Rattle.std.proofs.lemmas.List.Sums.{sum_by_more, sum_by-set, sum_by-take-le, get_or-le-sum_by}
use Rattle.vm_pages.specs.Pages.{no_pages, all_pages, count, count_below}
use Rattle.vm_pages.specs.Blocks.{AreCounted}
use Rattle.vm_pages.proofs.PageSets.{count-lt-length, count-no_pages, count-all_pages, length-no_pages, length-all_pages}
use Rattle.vm_pages.proofs.Listings.{count_below-set, count_below-set_before, count_below_mono, count_below_all}

abbrev weight : Bool → ℕ
weight marked = cond marked 1 0

-- below a block stand as many as the counts before it say
pub sum-counts : (pages : List Bool) (counts : List ℕ) (len block : ℕ) → AreCounted pages counts len → block ≤ length counts → sum (take block counts) ≡ count_below pages (block * 2048)
sum-counts pages counts len zero counted few = refl
sum-counts pages counts len (suc block) counted few =
    let here : block < length counts = omega arith in
    rw (← add-one) (omega (arith, sum_by_more (λ n. n) counts block 0 here, sum-counts pages counts len block counted (omega arith), counted.each block here))

-- the counts of all blocks make up the set's
pub sum-all_counts : (pages : List Bool) (counts : List ℕ) (len : ℕ) → AreCounted pages counts len → sum counts ≡ count pages
sum-all_counts pages counts len counted =
    let whole = sum-counts pages counts len (length counts) counted (omega arith) in
    rw (take_all (length counts) counts (omega arith), take_all (length counts * 2048) pages counted.blocks) at whole

-- a mark that changes with the count of its block and the set's length
pub AreCounted-set : (pages : List Bool) (counts : List ℕ) (len page n len' : ℕ) (mark : Bool) → AreCounted pages counts len → page < length pages
    → n + weight (get_or pages page false) ≡ get_or counts (page / 2048) 0 + weight mark
    → len' + weight (get_or pages page false) ≡ len + weight mark
    → AreCounted (set pages page mark) (set counts (page / 2048) n) len'
AreCounted-set pages counts len page n len' mark counted there block_is len_is = record {
  blocks = simp length-set counted.blocks;
  few = simp length-set counted.few;
  each = λ block within. each_after block (simp length-set at within);
  all = omega (arith, counted.all, sum_by-set weight pages page mark false there);
  fits = simp length-set counted.fits;
}
  where
    slot : page / 2048 < length counts
    slot = omega (arith, counted.blocks)

    changed : {block : ℕ} → block ≡ page / 2048 → get_or (set counts (page / 2048) n) block 0 ≡ n
    changed same = rw same (get_or-set_same counts (page / 2048) n 0 slot)

    each_after : (block : ℕ) → block < length counts → count_below (set pages page mark) (block * 2048) + get_or (set counts (page / 2048) n) block 0 ≡ count_below (set pages page mark) ((block + 1) * 2048)
    each_after block within =
        elim (cases_eq block (page / 2048)) [
          | inl same ↦
              omega (arith, block_is, counted.each block within, count_below-set_before pages page (block * 2048) mark (omega arith), count_below-set pages page ((block + 1) * 2048) mark there (omega arith), changed same, ap (λ b. get_or counts b 0) same)
          | inr other ↦
              elim (cases_lt block (page / 2048)) [
                | inl before ↦ omega (arith, counted.each block within, get_or-set_other counts (page / 2048) block n 0 other, count_below-set_before pages page (block * 2048) mark (omega arith), count_below-set_before pages page ((block + 1) * 2048) mark (omega arith))
                | inr after ↦ omega (arith, counted.each block within, get_or-set_other counts (page / 2048) block n 0 other, count_below-set pages page (block * 2048) mark there (omega arith), count_below-set pages page ((block + 1) * 2048) mark there (omega arith))
              ]
        ]

pub block-le-count : (pages : List Bool) (counts : List ℕ) (len block : ℕ) → AreCounted pages counts len → block < length counts → get_or counts block 0 ≤ count pages
block-le-count pages counts len block counted within =
    omega (arith, get_or-le-sum_by (λ n. n) counts block 0 within, sum-all_counts pages counts len counted)

-- the block of a page that is in the set counts it
pub block-positive : (pages : List Bool) (counts : List ℕ) (len page : ℕ) → AreCounted pages counts len → page < length pages → get_or pages page false ≡ true → 1 ≤ get_or counts (page / 2048) 0
block-positive pages counts len page counted there marked =
    let fewer = rw marked at (count_below-set pages page ((page / 2048 + 1) * 2048) false there (omega arith)) in
    omega (arith, fewer, counted.each (page / 2048) (omega (arith, counted.blocks)), count_below-set_before pages page (page / 2048 * 2048) false (omega arith), count_below_mono (set pages page false) (page / 2048 * 2048) ((page / 2048 + 1) * 2048) (omega arith))

-- what a set keeps when a page, in a block of count `n`, comes in or leaves
pub record Inserted (pages : List Bool) (counts : List ℕ) (len page n : ℕ) : Type 0 where
  pub count_fits : Fits w32 (n + 1)
  pub len_fits : Fits w32 (len + 1)
  pub counted : AreCounted (set pages page true) (set counts (page / 2048) (n + 1)) (len + 1)

pub inserted : (pages : List Bool) (counts : List ℕ) (len page n : ℕ) → AreCounted pages counts len → page < length pages → get_or pages page false ≡ false → n ≡ get_or counts (page / 2048) n → Inserted pages counts len page n
inserted pages counts len page n counted there absent n_read = record {
  count_fits = omega (arith, room, counted.fits, n_is, block-le-count pages counts len (page / 2048) counted slot);
  len_fits = omega (arith, room, counted.fits, counted.all);
  counted = AreCounted-set pages counts len page (n + 1) (len + 1) true counted there (rw absent (omega (arith, n_is))) (rw absent (omega arith));
}
  where
    slot : page / 2048 < length counts
    slot = omega (arith, counted.blocks)

    n_is : n ≡ get_or counts (page / 2048) 0
    n_is = get_or_read counts (page / 2048) n slot n_read 0

    room : count pages < length pages
    room = count-lt-length pages page there absent

pub record Removed (pages : List Bool) (counts : List ℕ) (len page n : ℕ) : Type 0 where
  pub counts_it : 1 ≤ n
  pub counted : AreCounted (set pages page false) (set counts (page / 2048) (n - 1)) (len - 1)

pub removed : (pages : List Bool) (counts : List ℕ) (len page n : ℕ) → AreCounted pages counts len → page < length pages → get_or pages page false ≡ true → n ≡ get_or counts (page / 2048) n → Removed pages counts len page n
removed pages counts len page n counted there present n_read = record {
  counts_it = rw n_is positive;
  counted = AreCounted-set pages counts len page (n - 1) (len - 1) false counted there (rw present (omega (arith, n_is, positive))) (rw present (omega (arith, positive, n_is, counted.all, block-le-count pages counts len (page / 2048) counted slot)));
}
  where
    slot : page / 2048 < length counts
    slot = omega (arith, counted.blocks)

    n_is : n ≡ get_or counts (page / 2048) 0
    n_is = get_or_read counts (page / 2048) n slot n_read 0

    positive : 1 ≤ get_or counts (page / 2048) 0
    positive = block-positive pages counts len page counted there present

-- a block that counts pages begins below the end
pub block_begins : (pages : List Bool) (counts : List ℕ) (len block : ℕ) → AreCounted pages counts len → block < length counts → 0 < get_or counts block 0 → block * 2048 < length pages
block_begins pages counts len block counted within some =
    elim (cases_lt (block * 2048) (length pages)) [
      | inl before ↦ before
      | inr past ↦ absurd (omega (arith, counted.each block within, some, count_below_all pages (block * 2048) past, count_below_all pages ((block + 1) * 2048) (omega arith)))
    ]

-- the empty set
pub AreCounted-none : (size blocks : ℕ) → size ≤ blocks * 2048 → blocks ≤ size → size < 2 ^ 32 → AreCounted (no_pages size) (replicate blocks 0) 0
AreCounted-none size blocks cover few fits = record {
  blocks = omega (arith, cover, length-no_pages size, length-replicate {A = ℕ} blocks 0);
  few = omega (arith, few, length-no_pages size, length-replicate {A = ℕ} blocks 0);
  each = λ block within. omega (arith, none_below (block * 2048), none_below ((block + 1) * 2048), get_or-replicate {A = ℕ} blocks block 0 0 (omega (arith, length-replicate {A = ℕ} blocks 0)));
  all = omega (arith, count-no_pages size);
  fits = omega (arith, fits, length-no_pages size);
}
  where
    none_below : (page : ℕ) → count_below (no_pages size) page ≡ 0
    none_below page = omega (arith, sum_by-take-le weight (no_pages size) page, count-no_pages size)

-- the set of all pages, each block of which has 2048 but for the last one where the pages don't fill it
AreCounted-all : (size : ℕ) (counts : List ℕ) → size ≤ length counts * 2048 → length counts ≤ size → size < 2 ^ 32
    → ((block : ℕ) → block < length counts → get_or counts block 0 ≡ min 2048 (size - block * 2048)) → AreCounted (all_pages size) counts size
AreCounted-all size counts cover few fits each = record {
  blocks = omega (arith, cover, length-all_pages size);
  few = omega (arith, few, length-all_pages size);
  each = λ block within. omega (arith, below (block * 2048), below ((block + 1) * 2048), each block within);
  all = sym (count-all_pages size);
  fits = omega (arith, fits, length-all_pages size);
}
  where
    below : (page : ℕ) → count_below (all_pages size) page ≡ min page size
    below page =
        elim (cases_lt page size) [
          | inl before ↦ ap count (take-replicate page size true (omega arith)) ∙ count-all_pages page ∙ omega arith
          | inr past ↦ count_below_all (all_pages size) page (omega (arith, length-all_pages size)) ∙ count-all_pages size ∙ omega arith
        ]

pub AreCounted-all_filled : (size blocks : ℕ) → size % 2048 ≡ 0 → blocks * 2048 ≡ size → size < 2 ^ 32 → AreCounted (all_pages size) (replicate blocks 2048) size
AreCounted-all_filled size blocks full is fits =
    AreCounted-all size (replicate blocks 2048) (omega (arith, length-replicate {A = ℕ} blocks 2048)) (omega (arith, length-replicate {A = ℕ} blocks 2048)) fits
    (λ block within. let there : block < blocks = omega (arith, length-replicate {A = ℕ} blocks 2048) in omega (arith, get_or-replicate {A = ℕ} blocks block 2048 0 there))

pub AreCounted-all_rest : (size blocks : ℕ) → 0 < size % 2048 → blocks ≡ size / 2048 + 1 → size < 2 ^ 32 → AreCounted (all_pages size) (set (replicate blocks 2048) (size / 2048) (size % 2048)) size
AreCounted-all_rest size blocks rest is fits =
    AreCounted-all size (set (replicate blocks 2048) (size / 2048) (size % 2048)) (omega (arith, long, is)) (omega (arith, long, is, rest)) fits
    (λ block within. elim (cases_eq block (size / 2048)) [
      | inl last ↦ rw last (get_or-set_same (replicate blocks 2048) (size / 2048) (size % 2048) 0 (omega (arith, is, length-replicate {A = ℕ} blocks 2048)) ∙ omega arith)
      | inr before ↦
          let there : block < blocks = omega (arith, long, within) in
          get_or-set_other (replicate blocks 2048) (size / 2048) block (size % 2048) 0 before ∙ get_or-replicate {A = ℕ} blocks block 2048 0 there ∙ omega (arith, is, before, there)
    ])
  where
    long : length (set (replicate blocks 2048) (size / 2048) (size % 2048)) ≡ blocks
    long = length-set (replicate blocks 2048) (size / 2048) (size % 2048) ∙ length-replicate {A = ℕ} blocks 2048
