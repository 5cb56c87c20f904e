-- The greatest and the least pages of a set, the bits of one word further on.
use Rattle.std.proofs.Common.{◌≡◌, ℕ, ◌+◌, ◌*◌, ◌%◌, ◌^◌, ◌<◌, ◌≤◌, List, [], ◌∷◌, ◌++◌, length, get_or, count_ones, sym, ap, ◌∙◌, arith}
use lib.Count.{ones}
use Rattle.vm_pages.specs.Pages.{count_below}
use Rattle.vm_pages.specs.Words.{marked}
use Rattle.vm_pages.specs.Extremes.{greatest_from, least_below}
use Rattle.vm_pages.proofs.BitLemmas.{IsTop, IsLowest}
use Rattle.vm_pages.proofs.ExtremeLemmas.{greatest_from-none, greatest_from-marked, least_below-none, least_below-marked}
use Rattle.vm_pages.proofs.WordLemmas.{length-marked, contains-bit, count_below-bits}

-- a list of the greatest pages down to those that a word marks below a place, which are `lower`
pub record IsListedDown (words : List ℕ) (pages word most lower : ℕ) (list : List ℕ) : Type 0 where
  pub place : ℕ
  pub few : place ≤ 64
  pub inside : word * 64 + place ≤ pages
  pub bits : lower ≡ get_or words word 0 % 2 ^ place
  pub listed : list ≡ greatest_from (marked words pages) (word * 64 + place) most

-- down to the greatest set bit below a place
pub greatest_from-top : (words : List ℕ) (size word place rest bit most : ℕ) → IsTop (get_or words word 0) place rest bit → rest ≡ get_or words word 0 % 2 ^ place → place ≤ 64 → word * 64 + place ≤ size
    → length (greatest_from (marked words size) (word * 64 + place) most) < most
    → greatest_from (marked words size) (word * 64 + bit) most ≡ greatest_from (marked words size) (word * 64 + place) most ++ (word * 64 + bit) ∷ []
greatest_from-top words size word place rest bit most top is few inside room =
    greatest_from-marked (marked words size) (word * 64 + bit) most (omega (arith, top.below, length-marked words size)) (contains-bit words size word bit (omega (arith, top.below)) (omega (arith, top.below)) top.set) (rw down room)
    ∙ ap (λ l. l ++ (word * 64 + bit) ∷ []) down
  where
    next : word * 64 + (1 + bit) ≡ word * 64 + bit + 1
    next = omega arith

    same : count_below (marked words size) (word * 64 + place) ≡ count_below (marked words size) (word * 64 + (1 + bit))
    same =
        count_below-bits words size word place few inside
        ∙ ap (λ (bits : ℕ). count_below (marked words size) (word * 64) + count_ones bits) (sym is ∙ sym top.same)
        ∙ sym (count_below-bits words size word (1 + bit) (omega (arith, top.below)) (omega (arith, top.below)))

    down : greatest_from (marked words size) (word * 64 + bit + 1) most ≡ greatest_from (marked words size) (word * 64 + place) most
    down = greatest_from-none (marked words size) (word * 64 + bit + 1) (word * 64 + place) most (omega (arith, top.below)) (rw next at same)

-- no set bit below a place
pub greatest_from-no_bits : (words : List ℕ) (size word place most : ℕ) → get_or words word 0 % 2 ^ place ≡ 0 → place ≤ 64 → word * 64 + place ≤ size
    → greatest_from (marked words size) (word * 64) most ≡ greatest_from (marked words size) (word * 64 + place) most
unfolding ones
greatest_from-no_bits words size word place most none few inside =
    greatest_from-none (marked words size) (word * 64) (word * 64 + place) most (omega arith) (omega (arith, count_below-bits words size word place few inside, ap count_ones none))

-- up to the least set bit from a place on
pub least_below-lowest : (words : List ℕ) (size word place end rest bit most : ℕ) → IsLowest (get_or words word 0) place end rest bit → end ≤ 64 → word * 64 + end ≤ size
    → length (least_below (marked words size) (word * 64 + place) most) < most
    → least_below (marked words size) (word * 64 + (1 + bit)) most ≡ least_below (marked words size) (word * 64 + place) most ++ (word * 64 + bit) ∷ []
least_below-lowest words size word place end rest bit most lowest few inside room =
    ap (λ page. least_below (marked words size) page most) next
    ∙ least_below-marked (marked words size) (word * 64 + bit) most (omega (arith, lowest.below, length-marked words size)) (contains-bit words size word bit (omega (arith, lowest.below)) (omega (arith, lowest.below)) lowest.set) (rw up room)
    ∙ ap (λ l. l ++ (word * 64 + bit) ∷ []) up
  where
    next : word * 64 + (1 + bit) ≡ word * 64 + bit + 1
    next = omega arith

    same : count_below (marked words size) (word * 64 + bit) ≡ count_below (marked words size) (word * 64 + place)
    same =
        count_below-bits words size word bit (omega (arith, lowest.below)) (omega (arith, lowest.below))
        ∙ ap (λ (bits : ℕ). count_below (marked words size) (word * 64) + count_ones bits) lowest.same
        ∙ sym (count_below-bits words size word place (omega (arith, lowest.above, lowest.below)) (omega (arith, lowest.above, lowest.below)))

    up : least_below (marked words size) (word * 64 + bit) most ≡ least_below (marked words size) (word * 64 + place) most
    up = least_below-none (marked words size) (word * 64 + place) (word * 64 + bit) most (omega (arith, lowest.above)) same

-- no set bit from a place on
pub least_below-no_bits : (words : List ℕ) (size word place end most : ℕ) → get_or words word 0 % 2 ^ place ≡ get_or words word 0 % 2 ^ end → place ≤ end → end ≤ 64 → word * 64 + end ≤ size
    → least_below (marked words size) (word * 64 + end) most ≡ least_below (marked words size) (word * 64 + place) most
least_below-no_bits words size word place end most none up few inside =
    least_below-none (marked words size) (word * 64 + place) (word * 64 + end) most (omega arith)
    (count_below-bits words size word end few inside
    ∙ ap (λ (bits : ℕ). count_below (marked words size) (word * 64) + count_ones bits) (sym none)
    ∙ sym (count_below-bits words size word place (omega arith) (omega arith)))
