-- The ranks of pages in a list of pages, and in it with one more.
use Rattle.std.proofs.Common.{◌≡◌, ℕ, suc, ◌+◌, ◌<◌, ◌≤◌, ◌==◌, ◌||◌, Bool, true, false, not, cond, List, [], ◌∷◌, ◌++◌, length, get_or, refl, sym, ap, ◌∙◌, inl, inr, arith, eq-eqb, add-zero}
use Rattle.std.proofs.lemmas.Bool.{eqb-true}
use Rattle.std.proofs.lemmas.Bool.Decides.{nat_tests, eqb_tells}
use Rattle.std.proofs.lemmas.List.{append-nil, length-append}
use Rattle.std.proofs.lemmas.List.Folds.{list_any-append, position_or_len_push}
use Rattle.std.proofs.lemmas.List.Sums.{passes_at_first}
use Rattle.std.specs.List.{list_any}
use Rattle.vm_import.specs.Kept.{rank_of}
use Rattle.vm_import.specs.SetSteps.{with_page}

differs : (a b : ℕ) → a < b → (a == b) ≡ false
differs a b h = grind (arith, nat_tests)

same_tests : (x y a b : ℕ) → (x ≡ y → a ≡ b) → (a ≡ b → x ≡ y) → (x == y) ≡ (b == a)
same_tests x y a b one other = elim (eqb_tells x y) [
  | inl h ↦ h.0 ∙ sym (eq-eqb b a (sym (one h.1)))
  | inr h ↦ h.0 ∙ sym (elim (eqb_tells b a) as (λ _. (b == a) ≡ false) [ inl k ↦ absurd (h.1 (other (sym k.1))) | inr k ↦ k.0 ])
]

-- the page is one of the list
abbrev pub IsThere : List ℕ → ℕ → Type 0
IsThere pages page = list_any (λ p. page == p) pages ≡ true

within_more : (here rest : Bool) (rank len : ℕ) → (rest ≡ true → rank < len) → (here || rest) ≡ true → cond (not here) (1 + rank) 0 < suc len
within_more true rest rank len h there = omega arith
within_more false rest rank len h there = let less = h there in omega arith

there_more : (here rest : Bool) (rank len : ℕ) → (rank < len → rest ≡ true) → cond (not here) (1 + rank) 0 < suc len → (here || rest) ≡ true
there_more true rest rank len h less = refl
there_more false rest rank len h less = h (omega arith)

pub rank_within : (pages : List ℕ) (page : ℕ) → IsThere pages page → rank_of pages page < length pages
rank_within [] page there = absurd (cc)
rank_within (p ∷ pages) page there = within_more (page == p) (list_any (λ q. page == q) pages) (rank_of pages page) (length pages) (rank_within pages page) there

-- a page whose rank is within is there
pub there_within : (pages : List ℕ) (page : ℕ) → rank_of pages page < length pages → IsThere pages page
there_within [] page h = absurd (omega arith)
there_within (p ∷ pages) page h = there_more (page == p) (list_any (λ q. page == q) pages) (rank_of pages page) (length pages) (there_within pages page) h

pub page_at_rank : (pages : List ℕ) (page : ℕ) → IsThere pages page → get_or pages (rank_of pages page) 0 ≡ page
page_at_rank pages page there = sym (eqb-true page _ (passes_at_first (λ p. page == p) pages 0 (rank_within pages page there)))

-- two pages have one rank exactly if they are the same
pub rank_tells : (pages : List ℕ) (a b : ℕ) → IsThere pages a → IsThere pages b → (rank_of pages a == rank_of pages b) ≡ (b == a)
rank_tells pages a b is_a is_b =
    let one : rank_of pages a ≡ rank_of pages b → a ≡ b = λ e. sym (page_at_rank pages a is_a) ∙ ap (λ r. get_or pages r 0) e ∙ page_at_rank pages b is_b in
    let other : a ≡ b → rank_of pages a ≡ rank_of pages b = λ e. ap (rank_of pages) e in
    same_tests (rank_of pages a) (rank_of pages b) a b one other

-- ---- with one more page

pub with_page_there : (pages : List ℕ) (page : ℕ) → IsThere (with_page pages page) page
with_page_there pages page = by (list_any (λ p. page == p) pages) refl
  where
    by : (b : Bool) → list_any (λ p. page == p) pages ≡ b → IsThere (with_page pages page) page
    by true e = rw e e
    by false e = rw e (list_any-append (λ p. page == p) pages (page ∷ []) ∙ ap (λ c. c || ((page == page) || false)) e ∙ ap (λ c. c || false) (eq-eqb page page refl))

pub there_with_page : (pages : List ℕ) (more page : ℕ) → IsThere pages page → IsThere (with_page pages more) page
there_with_page pages more page there = by (list_any (λ p. more == p) pages) refl
  where
    by : (b : Bool) → list_any (λ p. more == p) pages ≡ b → IsThere (with_page pages more) page
    by true e = rw e there
    by false e = rw e (list_any-append (λ p. page == p) pages (more ∷ []) ∙ ap (λ c. c || ((page == more) || false)) there)

-- a page that was there keeps its rank
pub rank_with_page : (pages : List ℕ) (more page : ℕ) → IsThere pages page → rank_of (with_page pages more) page ≡ rank_of pages page
rank_with_page pages more page there = by (list_any (λ p. more == p) pages) refl
  where
    within : rank_of pages page < length pages
    within = rank_within pages page there

    by : (b : Bool) → list_any (λ p. more == p) pages ≡ b → rank_of (with_page pages more) page ≡ rank_of pages page
    by true e = rw e refl
    by false e = rw e (position_or_len_push (λ p. page == p) pages more
        ∙ ap (λ c. cond c (length pages + cond (page == more) 0 1) (rank_of pages page)) (differs (rank_of pages page) (length pages) within))

-- the list is a front of the longer one
pub with_page_front : (pages : List ℕ) (more : ℕ) → (behind : List ℕ) × (with_page pages more ≡ pages ++ behind)
with_page_front pages more = by (list_any (λ p. more == p) pages) refl
  where
    by : (b : Bool) → list_any (λ p. more == p) pages ≡ b → (behind : List ℕ) × (with_page pages more ≡ pages ++ behind)
    by true e = ([], rw e (sym (append-nil pages)))
    by false e = (more ∷ [], rw e refl)

pub length-with_page : (pages : List ℕ) (more : ℕ) → (length pages ≤ length (with_page pages more)) × (length (with_page pages more) ≤ length pages + 1)
length-with_page pages more = by (list_any (λ p. more == p) pages) refl
  where
    by : (b : Bool) → list_any (λ p. more == p) pages ≡ b → (length pages ≤ length (with_page pages more)) × (length (with_page pages more) ≤ length pages + 1)
    by true e = rw e (omega arith, omega arith)
    by false e = rw e (omega (arith, length-append pages (more ∷ [])), omega (arith, length-append pages (more ∷ [])))

absent_more : (here rest : Bool) (rank len : ℕ) → (rest ≡ false → rank ≡ len) → (here || rest) ≡ false → cond (not here) (1 + rank) 0 ≡ suc len
absent_more true rest rank len h none = absurd (cc)
absent_more false rest rank len h none = let same = h none in omega arith

-- a page that isn't there has the rank that the next one gets
pub rank_absent : (pages : List ℕ) (page : ℕ) → list_any (λ p. page == p) pages ≡ false → rank_of pages page ≡ length pages
rank_absent [] page none = refl
rank_absent (p ∷ pages) page none = absent_more (page == p) (list_any (λ q. page == q) pages) (rank_of pages page) (length pages) (rank_absent pages page) none

pub rank_new : (pages : List ℕ) (page : ℕ) → rank_of (with_page pages page) page ≡ rank_of pages page
rank_new pages page = by (list_any (λ p. page == p) pages) refl
  where
    by : (b : Bool) → list_any (λ p. page == p) pages ≡ b → rank_of (with_page pages page) page ≡ rank_of pages page
    by true e = rw e refl
    by false e =
        let last = rank_absent pages page e in
        rw e (position_or_len_push (λ p. page == p) pages page
        ∙ ap (λ c. cond c (length pages + cond (page == page) 0 1) (rank_of pages page)) (eq-eqb (rank_of pages page) (length pages) last)
        ∙ ap (λ c. length pages + cond c 0 1) (eq-eqb page page refl) ∙ add-zero (length pages) ∙ sym last)
