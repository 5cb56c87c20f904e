-- Counts of draws, as pages are drawn and touched.
use Rattle.std.proofs.Common.{◌≡◌, ◌≢◌, ℕ, zero, suc, ◌==◌, cond, inl, inr, ◌+◌, ◌-◌, ◌<◌, ◌≤◌, true, false, Bool, List, [], ◌∷◌, ◌++◌, length, get_or, refl, sym, ap, ◌∙◌, arith}
use Rattle.std.specs.Prelude.{◌%◌, All, count_by, replicate}
use Rattle.std.proofs.Math.ListN.{set, length-set}
use Rattle.std.proofs.lemmas.List.{length-replicate, get_or-replicate, get_or-set_other, get_or-set_same}
use Rattle.std.proofs.lemmas.List.Sums.{count_by-le-length, sum_by-cons}
use Rattle.std.proofs.lemmas.Bool.{cases_eq, eq-eqb, ne_eqb}
use Rattle.std.proofs.lemmas.Grind.{common_steps}
use Rattle.vm_pages.proofs.PageSets.{contains-no_pages}
use Rattle.vm_sampling.specs.Counts.{AreCounts, classes_of, draws_in, draws_of}
use Rattle.vm_sampling.specs.Drawn.{Drawn}
use Rattle.vm_sampling.specs.SamplerFields.{AreSamples}
use Rattle.vm_pages.specs.Pages.{no_pages, contains, insert}

-- no draw gave a page of another class than that of page 0, where all gave page 0
draws_in-firsts : (n : ℕ) → draws_in (replicate n 0) 0 ≡ n
draws_in-firsts zero = refl
draws_in-firsts (suc n) = grind (arith, common_steps, draws_in-firsts n)

draws_in-no_firsts : (n class : ℕ) → 0 ≢ class → draws_in (replicate n 0) class ≡ 0
draws_in-no_firsts zero class other = refl
draws_in-no_firsts (suc n) class other = grind (arith, common_steps, draws_in-no_firsts n class other)

pub AreCounts-firsts : (n classes : ℕ) → 0 < classes → AreCounts (replicate n 0) (set (replicate classes 0) 0 n)
AreCounts-firsts n classes some = λ class there. elim (cases_eq 0 class) [
  | inl same ↦
      rw (← same)
      (get_or-set_same (replicate classes 0) 0 n 0 (omega (arith, some, length-replicate {A = ℕ} classes 0)) ∙ sym (draws_in-firsts n))
  | inr other ↦
      get_or-set_other (replicate classes 0) 0 class n 0 (λ same. other (sym same))
      ∙ get_or-replicate classes class 0 0 (omega (arith, there, length-set {A = ℕ} (replicate classes 0) 0 n, length-replicate {A = ℕ} classes 0))
      ∙ sym (draws_in-no_firsts n class other)
]

-- a page's class is among those of its guest
pub class_below : (size page : ℕ) → page < size → page % 4096 < classes_of size
class_below size page below = omega arith

-- one more draw gives a page of the class
pub AreCounts-push : (drawn counts : List ℕ) (page : ℕ) → page % 4096 < length counts → AreCounts drawn counts
    → AreCounts (drawn ++ page ∷ []) (set counts (page % 4096) (get_or counts (page % 4096) 0 + 1))
AreCounts-push drawn counts page within are = λ k h. grind (arith, common_steps, are k)

-- a draw is taken out of its class's count, which has it
pub counted_once : (page : ℕ) (drawn counts : List ℕ) → page % 4096 < length counts → AreCounts (page ∷ drawn) counts
    → 0 < get_or counts (page % 4096) 0
counted_once page drawn counts within are =
    let counted = are (page % 4096) within in
    let once : draws_in (page ∷ drawn) (page % 4096) ≡ draws_in drawn (page % 4096) + 1 = grind (arith, common_steps) in
    omega (arith, counted, once)

pub AreCounts-pop : (page : ℕ) (drawn counts : List ℕ) → page % 4096 < length counts → AreCounts (page ∷ drawn) counts
    → AreCounts drawn (set counts (page % 4096) (get_or counts (page % 4096) 0 - 1))
AreCounts-pop page drawn counts within are = λ k h. grind (arith, common_steps, are k)

-- no count is greater than the number of the draws
pub count_few : (class : ℕ) (drawn counts : List ℕ) → class < length counts → AreCounts drawn counts → get_or counts class 0 ≤ length drawn
count_few class drawn counts within are = omega (arith, are class within, count_by-le-length (λ p. p % 4096 == class) drawn)

-- one draw before others
draws_of-cons : (p : ℕ) (drawn : List ℕ) (page : ℕ) → draws_of (p ∷ drawn) page ≡ cond (p == page) 1 0 + draws_of drawn page
draws_of-cons p drawn page = sum_by-cons (λ q. cond (q == page) 1 0) p drawn

draws_in-cons : (p : ℕ) (drawn : List ℕ) (class : ℕ) → draws_in (p ∷ drawn) class ≡ cond (p % 4096 == class) 1 0 + draws_in drawn class
draws_in-cons p drawn class = sum_by-cons (λ q. cond (q % 4096 == class) 1 0) p drawn

-- a draw of the page is one of its class
draws_of-few : (drawn : List ℕ) (page : ℕ) → draws_of drawn page ≤ draws_in drawn (page % 4096)
draws_of-few [] page = omega arith
draws_of-few (p ∷ drawn) page = elim (cases_eq p page) [
  | inl same ↦
      let page_more : draws_of (p ∷ drawn) page ≡ 1 + draws_of drawn page =
      draws_of-cons p drawn page ∙ ap (λ b. cond b 1 0 + draws_of drawn page) (eq-eqb p page same) in
      let class_more : draws_in (p ∷ drawn) (page % 4096) ≡ 1 + draws_in drawn (page % 4096) =
      draws_in-cons p drawn (page % 4096) ∙ ap (λ b. cond b 1 0 + draws_in drawn (page % 4096)) (eq-eqb (p % 4096) (page % 4096) (ap (λ n. n % 4096) same)) in
      omega (arith, page_more, class_more, draws_of-few drawn page)
  | inr other ↦
      let page_same : draws_of (p ∷ drawn) page ≡ 0 + draws_of drawn page =
      draws_of-cons p drawn page ∙ ap (λ b. cond b 1 0 + draws_of drawn page) (ne_eqb p page other) in
      omega (arith, page_same, draws_in-cons p drawn (page % 4096), draws_of-few drawn page)
]

-- in a guest of few pages each page is a class
remainder_is : (size page : ℕ) → size ≤ 4096 → page < size → page % 4096 ≡ page
remainder_is size page few below = omega arith

draws_of-alone : (drawn : List ℕ) (size page : ℕ) → size ≤ 4096 → page < size → All (λ p. p < size) drawn
    → draws_in drawn (page % 4096) ≡ draws_of drawn page
draws_of-alone [] size page few below are = refl
draws_of-alone (p ∷ drawn) size page few below are =
    let first : p < size = are 0 0 (omega arith) in
    let rest = draws_of-alone drawn size page few below (λ k d h. are (suc k) d (omega arith)) in
    draws_in-cons p drawn (page % 4096)
    ∙ (λ i. cond (remainder_is size p few first i == remainder_is size page few below i) 1 0 + rest i)
    ∙ sym (draws_of-cons p drawn page)

-- where no draw gave a page of the class, none gave the page
pub undrawn : (drawn counts : List ℕ) (page : ℕ) → page % 4096 < length counts → AreCounts drawn counts → get_or counts (page % 4096) 0 ≡ 0
    → 0 ≡ draws_of drawn page
undrawn drawn counts page within are none = omega (arith, are (page % 4096) within, draws_of-few drawn page, none)

-- the count of a class that has one page
pub count_alone : (drawn counts : List ℕ) (size page : ℕ) → size ≤ 4096 → page < size → page % 4096 < length counts → All (λ p. p < size) drawn
    → AreCounts drawn counts → get_or counts (page % 4096) 0 ≡ draws_of drawn page
count_alone drawn counts size page few below within pages are = are (page % 4096) within ∙ draws_of-alone drawn size page few below pages

-- a touch adds to the hits what the page's count is
pub count_by-contains-insert : (drawn : List ℕ) (touched : List Bool) (page : ℕ) → page < length touched → contains touched page ≡ false
    → count_by (λ p. contains (insert touched page) p) drawn ≡ count_by (λ p. contains touched p) drawn + draws_of drawn page
count_by-contains-insert [] touched page within untouched = refl
count_by-contains-insert (p ∷ drawn) touched page within untouched =
    grind (arith, common_steps, count_by-contains-insert drawn touched page within untouched)

-- no draw hits a page while none is touched
pub no_hits : (drawn : List ℕ) (size : ℕ) → 0 ≡ count_by (λ p. contains (no_pages size) p) drawn
no_hits [] size = refl
no_hits (p ∷ drawn) size =
    let missed : contains (no_pages size) p ≡ false = contains-no_pages size p in
    rw missed (no_hits drawn size)

-- pages that were just drawn, none of them touched yet
pub AreSamples-drawn : (drawn : Drawn) (touched : List Bool) → 0 < length drawn.pages → length drawn.pages ≤ 1000
    → touched ≡ no_pages drawn.size → AreSamples drawn touched 0
AreSamples-drawn drawn touched some few untouched =
    record {
      some_drawn = some;
      few_drawn = few;
      same_pages = sym (ap length untouched ∙ length-replicate drawn.size false);
      counted_hits = rw untouched (no_hits drawn.pages drawn.size);
    }

-- a page that was not touched before is touched
pub AreSamples-touched : (drawn : Drawn) (touched : List Bool) (hits page : ℕ) → page < length touched
    → contains touched page ≡ false → AreSamples drawn touched hits
    → AreSamples drawn (insert touched page) (hits + draws_of drawn.pages page)
AreSamples-touched drawn touched hits page within untouched are =
    let same = length-set touched page true in
    let more = count_by-contains-insert drawn.pages touched page within untouched in
    record {
      some_drawn = are.some_drawn;
      few_drawn = are.few_drawn;
      same_pages = omega (arith, same, are.same_pages);
      counted_hits = omega (arith, more, are.counted_hits);
    }
