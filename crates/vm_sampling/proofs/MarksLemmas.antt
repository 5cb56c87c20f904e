-- Marks as sets of pages: a page that is marked, and a new period.
use Rattle.std.proofs.Common.{◌≡◌, ◌≢◌, ℕ, zero, suc, ◌<◌, ◌≤◌, false, List, [], ◌∷◌, length, get_or, refl, ap, ◌∙◌, arith}
use Rattle.std.specs.Prelude.{nat_eq, replicate}
use Rattle.std.proofs.Math.ListN.{set}
use Rattle.std.proofs.lemmas.List.{length-map, map-set}
use Rattle.std.proofs.lemmas.List.Elements.{All-replicate}
use Rattle.std.proofs.lemmas.Bool.{eq-eqb, ne_eqb}
use Rattle.vm_pages.specs.Pages.{no_pages, contains, insert}
use Rattle.vm_pages.proofs.PageSets.{insert-contained}
use Rattle.vm_sampling.specs.Marks.{marked, AreMarksUpTo}

-- a page that gets the mark joins the set
pub marked-set : (number page : ℕ) (marks : List ℕ) → marked number (set marks page number) ≡ insert (marked number marks) page
marked-set number page marks =
    map-set (λ mark. nat_eq mark number) marks page number ∙ ap (λ b. set (marked number marks) page b) (eq-eqb number number refl)

-- a page is in the set where its mark is the number
pub contains-marked : (number page : ℕ) (marks : List ℕ) → page < length marks → contains (marked number marks) page ≡ nat_eq (get_or marks page 0) number
contains-marked number page [] within = absurd (omega arith)
contains-marked number zero (mark ∷ marks) within = refl
contains-marked number (suc page) (mark ∷ marks) within = contains-marked number page marks (omega arith)

-- no mark is that of a later period
pub marked-later : (number later : ℕ) (marks : List ℕ) → number < later → AreMarksUpTo number marks → marked later marks ≡ no_pages (length marks)
marked-later number later [] above none = refl
marked-later number later (mark ∷ marks) above up_to =
    let first : mark ≤ number = up_to 0 0 (omega arith) in
    let rest = marked-later number later marks above (λ k d h. up_to (suc k) d (omega arith)) in
    rw (ne_eqb mark later (omega arith), rest) refl

-- a page whose mark is another isn't in the set
pub contains-unmarked : (number page : ℕ) (marks : List ℕ) → page < length marks → get_or marks page 0 ≢ number → contains (marked number marks) page ≡ false
contains-unmarked number page marks within other = contains-marked number page marks within ∙ ne_eqb (get_or marks page 0) number other

-- a page that has the mark already
pub insert-marked : (number page : ℕ) (marks : List ℕ) → page < length marks → get_or marks page 0 ≡ number → insert (marked number marks) page ≡ marked number marks
insert-marked number page marks within same =
    insert-contained (marked number marks) page (contains-marked number page marks within ∙ eq-eqb (get_or marks page 0) number same)

-- marks that were swept
pub marked-none : (size : ℕ) → marked 1 (replicate size 0) ≡ no_pages size
marked-none zero = refl
marked-none (suc size) = ap (λ pages. false ∷ pages) (marked-none size)

-- each page has a mark
pub length-marked : (number : ℕ) (marks : List ℕ) → length (marked number marks) ≡ length marks
length-marked number marks = length-map marks (λ mark. nat_eq mark number)

-- the marks of a new table
pub marks-none : (number size : ℕ) → AreMarksUpTo number (replicate size 0)
marks-none number size = All-replicate (λ mark. mark ≤ number) size 0 (omega arith)
