-- How a table keeps its items: what it has after an item is set, and after a block is begun.
use Rattle.std.proofs.Common.{◌≡◌, ◌≢◌, ℕ, zero, suc, ◌+◌, ◌-◌, ◌*◌, ◌/◌, ◌%◌, ◌^◌, ◌<◌, ◌≤◌, ◌++◌, List, [], ◌∷◌, length, set, get_or, replicate, Option, Some, None, refl, sym, ap, ◌∙◌, inl, inr, arith}
use Rattle.std.specs.Prelude.{min}
use Rattle.std.proofs.Math.Nat.{min-le_left, min-le_right}
use Rattle.std.specs.Option.{unwrap_or}
use Rattle.std.proofs.lemmas.Bool.{cases_eq, cases_lt}
use Rattle.std.proofs.lemmas.Option.{none-some}
use Rattle.std.proofs.lemmas.List.{ext_get_or, length-set, length-append, length-replicate, get_or-set_same, get_or-set_other, get_or-replicate, get_or_past, get_or_read, get_or_append_left, get_or-append_right, get_or-append-add}
use Rattle.std.proofs.lemmas.List.FromFn.{length-map-range_with_len, get_or-map-range_with_len}
use Rattle.vm_pages.specs.Places.{place_in, place_of, item_in, items_of, written, ArePlaces}

-- each page has an item
pub length-items_of : {T : Type 0} (size : ℕ) (first : T) (blocks : List ℕ) (items : List T) → length (items_of size first blocks items) ≡ size
unfolding items_of
length-items_of size first blocks items = length-map-range_with_len (λ page. item_in first items (place_of blocks page)) 0 size

pub get_or-items_of : {T : Type 0} (size : ℕ) (first : T) (blocks : List ℕ) (items : List T) (page : ℕ) (d : T) → page < size
    → get_or (items_of size first blocks items) page d ≡ item_in first items (place_of blocks page)
unfolding items_of
get_or-items_of size first blocks items page d there = get_or-map-range_with_len (λ p. item_in first items (place_of blocks p)) 0 size page page d there (omega arith)

-- the items are those of a list where each page's is
pub items_of-is : {T : Type 0} (size : ℕ) (first : T) (blocks : List ℕ) (items list : List T) → length list ≡ size
    → ((page : ℕ) → page < size → item_in first items (place_of blocks page) ≡ get_or list page first)
    → items_of size first blocks items ≡ list
items_of-is size first blocks items list long each =
    ext_get_or first (items_of size first blocks items) list (length-items_of size first blocks items ∙ sym long)
    (λ page within. let there : page < size = omega (arith, within, length-items_of size first blocks items) in
    get_or-items_of size first blocks items page first there ∙ each page there)

-- no block was written
pub items_of-none : {T : Type 0} (size : ℕ) (first : T) → items_of size first [] [] ≡ replicate size first
items_of-none size first =
    items_of-is size first [] [] (replicate size first) (length-replicate size first)
    (λ page there. sym (get_or-replicate size page first first there))

pub ArePlaces-none : (size : ℕ) → size < 2 ^ 32 → ArePlaces size [] 0
ArePlaces-none size few = record {
  few = few;
  reached = omega arith;
  filled = refl;
  within = λ page place there at. absurd (none-some place at);
  apart = λ page other place there beside at also. absurd (none-some place at);
}

-- an item is set in the place of its page
pub items_of-set : {T : Type 0} (size : ℕ) (first : T) (blocks : List ℕ) (items : List T) (page place : ℕ) (item : T)
    → ArePlaces size blocks (length items) → page < size → place_of blocks page ≡ Some place
    → items_of size first blocks (set items place item) ≡ set (items_of size first blocks items) page item
items_of-set {T} size first blocks items page place item are there at =
    items_of-is size first blocks (set items place item) (set old page item) (length-set old page item ∙ length-items_of size first blocks items) each
  where
    old : List T
    old = items_of size first blocks items

    other_place : (other : ℕ) → other < size → other ≢ page → (o : Option ℕ) → place_of blocks other ≡ o → item_in first (set items place item) o ≡ item_in first items o
    other_place other below differs None is = refl
    other_place other below differs (Some q) is = get_or-set_other items place q item first (λ same. differs (are.apart other page place below there (is ∙ ap (λ n. Some n) same) at))

    each : (other : ℕ) → other < size → item_in first (set items place item) (place_of blocks other) ≡ get_or (set old page item) other first
    each other below = elim (cases_eq other page) [
      | inl same ↦ rw (same, at) (get_or-set_same items place item first (are.within page place there at) ∙ sym (get_or-set_same old page item first (omega (arith, there, length-items_of size first blocks items))))
      | inr differs ↦
          other_place other below differs (place_of blocks other) refl
          ∙ sym (get_or-items_of size first blocks items other first below)
          ∙ sym (get_or-set_other old page other item first differs)
    ]

-- how many pages lie in blocks that were written
written-le : (size : ℕ) (blocks : List ℕ) → written size blocks ≤ size
written-le size [] = omega arith
written-le size (zero ∷ blocks) = omega (arith, written-le (size - 256) blocks)
written-le size (suc start ∷ blocks) = omega (arith, written-le (size - 256) blocks, min-le_left size 256, min-le_right size 256)

written-zeros : (size k : ℕ) → written size (replicate k 0) ≡ 0
written-zeros size zero = refl
written-zeros size (suc k) = written-zeros (size - 256) k

written-reached : (size k : ℕ) (blocks : List ℕ) → written size (blocks ++ replicate k 0) ≡ written size blocks
written-reached size k [] = written-zeros size k
written-reached size k (zero ∷ blocks) = written-reached (size - 256) k blocks
written-reached size k (suc start ∷ blocks) = ap (λ n. min size 256 + n) (written-reached (size - 256) k blocks)

written-begun : (size : ℕ) (blocks : List ℕ) (block start : ℕ) → block < length blocks → get_or blocks block 0 ≡ 0
    → written size (set blocks block (suc start)) ≡ written size blocks + min (size - block * 256) 256
written-begun size [] block start there none = absurd (omega arith)
written-begun size (zero ∷ blocks) zero start there none = omega arith
written-begun size (suc old ∷ blocks) zero start there none = absurd (omega (arith, none))
written-begun size (zero ∷ blocks) (suc block) start there none =
    written-begun (size - 256) blocks block start (omega arith) none ∙ ap (λ n. written (size - 256) blocks + min n 256) left
  where
    left : size - 256 - block * 256 ≡ size - suc block * 256
    left = omega arith
written-begun size (suc old ∷ blocks) (suc block) start there none =
    let left : size - 256 - block * 256 ≡ size - suc block * 256 = omega arith in
    let same : min (size - 256 - block * 256) 256 ≡ min (size - suc block * 256) 256 = ap (λ n. min n 256) left in
    omega (arith, same, written-begun (size - 256) blocks block start (omega arith) none)

-- the list of blocks in which one is begun
abbrev pub begun : List ℕ → ℕ → ℕ → List ℕ
begun blocks block start = set (blocks ++ replicate (block + 1 - length blocks) 0) block (suc start)

-- what is known where a block is begun
pub record Begins (size : ℕ) (blocks : List ℕ) (page start pages : ℕ) : Type 0 where
  pub room : start + pages ≤ size
  pub places : ArePlaces size (begun blocks (page / 256) start) (start + pages)
  pub there : place_of (begun blocks (page / 256) start) page ≡ Some (start + page % 256)

-- a block without a place was never written
unwritten : (start k : ℕ) → place_in start k ≡ None → start ≡ 0
unwritten zero k none = refl
unwritten (suc start) k none = absurd (none-some (start + k) (sym none))

zeros : (k i : ℕ) → get_or {A = ℕ} (replicate k 0) i 0 ≡ 0
zeros k i = elim (cases_lt i k) [
  | inl below ↦ get_or-replicate k i 0 0 below
  | inr past ↦ get_or_past (replicate k 0) i 0 (omega (arith, length-replicate {A = ℕ} k 0))
]

-- blocks that are reached were never written
start-reached : (blocks : List ℕ) (k block : ℕ) → get_or (blocks ++ replicate k 0) block 0 ≡ get_or blocks block 0
start-reached blocks k block = elim (cases_lt block (length blocks)) [
  | inl below ↦ get_or_append_left blocks (replicate k 0) 0 block below
  | inr past ↦ get_or-append_right blocks (replicate k 0) (length blocks) block 0 refl past ∙ zeros k (block - length blocks) ∙ sym (get_or_past blocks block 0 past)
]

length-reached : (blocks : List ℕ) (k : ℕ) → length (blocks ++ replicate k 0) ≡ length blocks + k
length-reached blocks k = length-append blocks (replicate k 0) ∙ ap (λ n. length blocks + n) (length-replicate {A = ℕ} k 0)

-- the places of the pages of the block that is begun, and of all others
place-begun : (blocks : List ℕ) (block start page : ℕ) → page / 256 ≡ block → place_of (begun blocks block start) page ≡ Some (start + page % 256)
place-begun blocks block start page same =
    ap (λ n. place_in n (page % 256)) (ap (λ b. get_or (begun blocks block start) b 0) same ∙ get_or-set_same (blocks ++ replicate (block + 1 - length blocks) 0) block (suc start) 0 (omega (arith, length-reached blocks (block + 1 - length blocks))))

place-other : (blocks : List ℕ) (block start page : ℕ) → page / 256 ≢ block → place_of (begun blocks block start) page ≡ place_of blocks page
place-other blocks block start page differs =
    ap (λ n. place_in n (page % 256)) (get_or-set_other (blocks ++ replicate (block + 1 - length blocks) 0) block (page / 256) (suc start) 0 differs ∙ start-reached blocks (block + 1 - length blocks) (page / 256))

one_place : (place other : ℕ) → Some place ≡ Some other → place ≡ other
one_place place other same = ap (λ o. unwrap_or o 0) same

begun_within : (size block page : ℕ) → page < size → page / 256 ≡ block → page % 256 < min (size - block * 256) 256
begun_within size block page there same = omega arith

begun_once : (block start page other : ℕ) → page / 256 ≡ block → other / 256 ≡ block → start + page % 256 ≡ start + other % 256 → page ≡ other
begun_once block start page other same also alike = omega arith

pub begins : (size : ℕ) (blocks : List ℕ) (page start pages : ℕ) → ArePlaces size blocks start → page < size → place_of blocks page ≡ None
    → pages ≡ min (size - page / 256 * 256) 256 → Begins size blocks page start pages
begins size blocks page start pages are there none many = record {
  room = room;
  places = record {
    few = are.few;
    reached = omega (arith, long, are.reached);
    filled = sym whole;
    within = λ q place below at. elim (cases_eq (q / 256) block) [
      | inl same ↦
          let is : place ≡ start + q % 256 = one_place place (start + q % 256) (sym at ∙ place-begun blocks block start q same) in
          omega (arith, is, many, begun_within size block q below same)
      | inr differs ↦ let old : place < start = are.within q place below (sym (place-other blocks block start q differs) ∙ at) in omega arith
    ];
    apart = λ q r place below beside at also. elim (cases_eq (q / 256) block) [
      | inl same ↦
          let is : place ≡ start + q % 256 = one_place place (start + q % 256) (sym at ∙ place-begun blocks block start q same) in
          elim (cases_eq (r / 256) block) [
            | inl too ↦
                let both : place ≡ start + r % 256 = one_place place (start + r % 256) (sym also ∙ place-begun blocks block start r too) in
                begun_once block start q r same too (sym is ∙ both)
            | inr differs ↦ let old : place < start = are.within r place beside (sym (place-other blocks block start r differs) ∙ also) in absurd (omega arith)
          ]
      | inr differs ↦
          let mine : place_of blocks q ≡ Some place = sym (place-other blocks block start q differs) ∙ at in
          elim (cases_eq (r / 256) block) [
            | inl too ↦
                let old : place < start = are.within q place below mine in
                let both : place ≡ start + r % 256 = one_place place (start + r % 256) (sym also ∙ place-begun blocks block start r too) in
                absurd (omega arith)
            | inr also_differs ↦ are.apart q r place below beside mine (sym (place-other blocks block start r also_differs) ∙ also)
          ]
    ];
  };
  there = place-begun blocks block start page refl;
}
  where
    block : ℕ
    block = page / 256

    reached : List ℕ
    reached = blocks ++ replicate (page / 256 + 1 - length blocks) 0

    long : length (begun blocks (page / 256) start) ≡ length blocks + (page / 256 + 1 - length blocks)
    long = length-set reached (page / 256) (suc start) ∙ length-reached blocks (page / 256 + 1 - length blocks)

    whole : written size (begun blocks (page / 256) start) ≡ start + pages
    whole =
        written-begun size reached (page / 256) start (omega (arith, length-reached blocks (page / 256 + 1 - length blocks)))
        (start-reached blocks (page / 256 + 1 - length blocks) (page / 256) ∙ unwritten (get_or blocks (page / 256) 0) (page % 256) none)
        ∙ (λ i. (written-reached size (page / 256 + 1 - length blocks) blocks ∙ sym are.filled) i + sym many i)

    room : start + pages ≤ size
    room = omega (arith, whole, written-le size (begun blocks (page / 256) start))

-- a block that is begun has the first item for each page, as it had
pub items_of-begun : {T : Type 0} (size : ℕ) (first : T) (blocks : List ℕ) (items : List T) (page pages : ℕ)
    → ArePlaces size blocks (length items) → place_of blocks page ≡ None
    → items_of size first (begun blocks (page / 256) (length items)) (items ++ replicate pages first) ≡ items_of size first blocks items
items_of-begun {T} size first blocks items page pages are none =
    items_of-is size first (begun blocks (page / 256) (length items)) (items ++ replicate pages first) (items_of size first blocks items) (length-items_of size first blocks items)
    (λ q below. elim (cases_eq (q / 256) (page / 256)) [
      | inl same ↦
          ap (item_in first (items ++ replicate pages first)) (place-begun blocks (page / 256) (length items) q same)
          ∙ get_or-append-add items (replicate pages first) (q % 256) first
          ∙ firsts (q % 256)
          ∙ sym (ap (item_in first items) (ap (λ n. place_in n (q % 256)) (ap (λ b. get_or blocks b 0) same ∙ unwritten (get_or blocks (page / 256) 0) (page % 256) none)))
          ∙ sym (get_or-items_of size first blocks items q first below)
      | inr differs ↦
          ap (item_in first (items ++ replicate pages first)) (place-other blocks (page / 256) (length items) q differs)
          ∙ old q below (place_of blocks q) refl
          ∙ sym (get_or-items_of size first blocks items q first below)
    ])
  where
    firsts : (i : ℕ) → get_or (replicate pages first) i first ≡ first
    firsts i = elim (cases_lt i pages) [
      | inl below ↦ get_or-replicate pages i first first below
      | inr past ↦ get_or_past (replicate pages first) i first (omega (arith, length-replicate pages first))
    ]

    old : (q : ℕ) → q < size → (o : Option ℕ) → place_of blocks q ≡ o → item_in first (items ++ replicate pages first) o ≡ item_in first items o
    old q below None is = refl
    old q below (Some place) is = get_or_append_left items (replicate pages first) first place (are.within q place below is)

-- the place in a block that was written
pub place_in-some : (start k : ℕ) → start ≢ 0 → Some (start - 1 + k) ≡ place_in start k
place_in-some zero k some = absurd (some refl)
place_in-some (suc start) k some = let same : suc start - 1 + k ≡ start + k = omega arith in ap (λ n. Some n) same

-- a page that has an item is one of the guest's
pub below_size : {T : Type 0} (size : ℕ) (first : T) (blocks : List ℕ) (items : List T) (page : ℕ) → page < length (items_of size first blocks items) → page < size
below_size size first blocks items page there = omega (arith, there, length-items_of size first blocks items)

-- the item of a page whose block was written, and of another
pub item-written : {T : Type 0} (size : ℕ) (first : T) (blocks : List ℕ) (items : List T) (page place : ℕ) (item : T)
    → ArePlaces size blocks (length items) → page < size → place_of blocks page ≡ Some place → item ≡ get_or items place item
    → item ≡ get_or (items_of size first blocks items) page first
item-written size first blocks items page place item are there at is =
    get_or_read items place item (are.within page place there at) is first
    ∙ sym (get_or-items_of size first blocks items page first there ∙ ap (item_in first items) at)

pub item-unwritten : {T : Type 0} (size : ℕ) (first : T) (blocks : List ℕ) (items : List T) (page : ℕ) → page < size → place_of blocks page ≡ None
    → first ≡ get_or (items_of size first blocks items) page first
item-unwritten size first blocks items page there none = sym (get_or-items_of size first blocks items page first there ∙ ap (item_in first items) none)
