-- The marks of an index, and the slots that they say.
use Rattle.std.proofs.Common.{◌≡◌, ℕ, zero, suc, ◌+◌, List, ◌∷◌, length, replicate, get_or, set, Option, Some, None, refl, sym, ap, ◌∙◌, inl, inr, arith}
use Rattle.std.proofs.lemmas.Bool.{cases_lt}
use Rattle.std.proofs.lemmas.List.{length-replicate, get_or-replicate, get_or_past, map-set, length-set}
use Rattle.std.proofs.Math.Numerals.{add-one}
use Rattle.vm_pages.specs.PageTable.{Items, first_items, with_item}
use Rattle.vm_swap.specs.Index.{slot_of, slots_of, no_slots, IsWhole}
use Rattle.vm_swap.proofs.Slots.{get_or-map}

-- no slot is found where no page has one
none_among : (n page : ℕ) → get_or (replicate {A = Option ℕ} n None) page None ≡ None
none_among n page = elim (cases_lt page n) [
  | inl within ↦ get_or-replicate n page None None within
  | inr past ↦ get_or_past (replicate n None) page None (omega (arith, length-replicate {A = Option ℕ} n None))
]

pub none_in : (index : List (Option ℕ)) (page : ℕ) → index ≡ no_slots → get_or index page None ≡ None
unfolding no_slots
none_in index page is = ap (λ l. get_or l page None) is ∙ none_among 262144 page

pub length-no_slots : length no_slots ≡ 262144
unfolding no_slots
length-no_slots = length-replicate {A = Option ℕ} 262144 None

-- marks of which each says that there is no slot
slots_of-zeros : (n : ℕ) → slots_of (replicate n 0) ≡ replicate n None
slots_of-zeros zero = refl
slots_of-zeros (suc n) = ap (λ slots. None ∷ slots) (slots_of-zeros n)

-- the slot that a mark says, read beside it
pub slots_of-get : (marks : List ℕ) (page : ℕ) → slot_of (get_or marks page 0) ≡ get_or (slots_of marks) page None
slots_of-get marks page = sym (get_or-map slot_of marks page 0)

-- no page has a mark
pub slots_of-first : slots_of (first_items 0 262144).list ≡ no_slots
unfolding no_slots
slots_of-first = slots_of-zeros 262144

-- an index begins whole
pub whole_of : (marks : Items ℕ) (n : ℕ) → n ≡ 262144 → marks ≡ first_items 0 n → IsWhole marks
whole_of marks n limit same = record {
  first = ap (λ (m : Items ℕ). m.first) same;
  each = ap (λ (m : Items ℕ). length m.list) same ∙ length-replicate {A = ℕ} n 0 ∙ limit;
}

-- once all have the first item again, the marks are as they began
pub cleared : (marks : Items ℕ) → IsWhole marks → first_items marks.first (length marks.list) ≡ first_items 0 262144
cleared marks whole = λ i. first_items (whole.first i) (whole.each i)

-- ---- one mark more, or less

pub slots_of-note : (marks : List ℕ) (page slot : ℕ) → slots_of (set marks page (slot + 1)) ≡ set (slots_of marks) page (Some slot)
slots_of-note marks page slot = map-set slot_of marks page (slot + 1) ∙ ap (λ mark. set (slots_of marks) page (slot_of mark)) (add-one slot)

pub slots_of-forget : (marks : List ℕ) (page : ℕ) → slots_of (set marks page 0) ≡ set (slots_of marks) page None
slots_of-forget marks page = map-set slot_of marks page 0

pub whole-with_item : (marks : Items ℕ) (page mark : ℕ) → IsWhole marks → IsWhole (with_item marks page mark)
whole-with_item marks page mark whole = record { first = whole.first; each = length-set marks.list page mark ∙ whole.each }
