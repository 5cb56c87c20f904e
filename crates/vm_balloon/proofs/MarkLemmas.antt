-- Sets of pages that are made of a list, and emptied by it.
use Rattle.std.proofs.Common.{◌≡◌, ℕ, ◌<◌, ◌≤◌, Bool, true, false, List, [], ◌∷◌, ◌++◌, length, refl, sym, ap, ◌∙◌, inl, inr, arith, append-nil}
use Rattle.std.specs.Prelude.{◌||◌, ◌==◌}
use Rattle.std.specs.List.{list_any}
use Rattle.std.proofs.lemmas.Bool.{cases_eq, eq-eqb, ne_eqb}
use Rattle.std.proofs.lemmas.List.Sums.{fold-append}
use Rattle.std.proofs.lemmas.List.{set_past}
use Rattle.std.proofs.lemmas.Grind.{flat_map-append}
use Rattle.vm_pages.specs.Pages.{no_pages, contains, insert, remove, insert_all, remove_all}
use Rattle.vm_pages.proofs.PageSets.{same_pages, lt-length, length-insert, length-remove_all, length-insert_all, length-no_pages, contains-no_pages, contains-insert_same, contains-insert_other, contains-remove_same, contains-remove_all_before}
use Rattle.vm_balloon.specs.Virtio.{page_numbers}
use Rattle.vm_balloon.specs.Service.{numbers_in}

pub or-false : (a : Bool) → (a || false) ≡ a
or-false true = refl
or-false false = refl

pub or-true : (a : Bool) → (a || true) ≡ true
or-true true = refl
or-true false = refl

-- the pages of a set that got those of a list
pub contains-insert_all : (pages : List Bool) (added : List ℕ) (page : ℕ) → page < length pages
    → contains (insert_all pages added) page ≡ (contains pages page || list_any (λ number. number == page) added)
contains-insert_all pages [] page within = sym (or-false (contains pages page))
contains-insert_all pages (first ∷ added) page within =
    let size = length-insert pages first in
    let rest = contains-insert_all (insert pages first) added page (omega (arith, size)) in
    rest ∙ elim (cases_eq page first) [
      | inl same ↦
          let now_in : contains (insert pages first) page ≡ true = rw same (contains-insert_same pages first (rw same at within)) in
          let named : (first == page) ≡ true = eq-eqb first page (sym same) in
          rw (now_in, named) (sym (or-true (contains pages page)))
      | inr other ↦
          let before : contains (insert pages first) page ≡ contains pages page = contains-insert_other pages first page other in
          let unnamed : (first == page) ≡ false = ne_eqb first page (λ e. other (sym e)) in
          rw (before, unnamed) refl
    ]

-- a page of the list is gone from the set
pub contains-remove_all_gone : (pages : List Bool) (removed : List ℕ) (page : ℕ) → list_any (λ number. number == page) removed ≡ true
    → contains (remove_all pages removed) page ≡ false
contains-remove_all_gone pages [] page listed = absurd (cc)
contains-remove_all_gone pages (first ∷ removed) page listed = elim (cases_eq page first) [
  | inl same ↦ elim (contains (remove_all (remove pages first) removed) page) as (λ b. contains (remove_all (remove pages first) removed) page ≡ b → b ≡ false) [
    | true ↦ λ there.
        let before = contains-remove_all_before (remove pages first) removed page there in
        let gone : contains (remove pages first) page ≡ false = rw same (contains-remove_same pages first) in
        sym before ∙ gone
    | false ↦ λ gone. refl
  ] refl
  | inr other ↦
      let unnamed : (first == page) ≡ false = ne_eqb first page (λ e. other (sym e)) in
      contains-remove_all_gone (remove pages first) removed page (rw unnamed at listed)
]

-- a set is empty once each page that it may have is taken out
pub remove_all-covered : (pages : List Bool) (listed : List ℕ) → ((page : ℕ) → contains pages page ≡ true → list_any (λ number. number == page) listed ≡ true)
    → remove_all pages listed ≡ no_pages (length pages)
remove_all-covered pages listed covered =
    same_pages (remove_all pages listed) (no_pages (length pages)) (length-remove_all pages listed ∙ sym (length-no_pages (length pages)))
    (λ page below. elim (contains (remove_all pages listed) page) as (λ b. contains (remove_all pages listed) page ≡ b → b ≡ contains (no_pages (length pages)) page) [
      | true ↦ λ there.
          let gone = contains-remove_all_gone pages listed page (covered page (contains-remove_all_before pages listed page there)) in
          absurd (let wrong : true ≡ false = sym there ∙ gone in cc)
      | false ↦ λ gone. sym (contains-no_pages (length pages) page)
    ] refl)

-- marks of a list, and no others
pub contains-marked : (size : ℕ) (numbers : List ℕ) (page : ℕ) → page < size
    → contains (insert_all (no_pages size) numbers) page ≡ list_any (λ number. number == page) numbers
contains-marked size numbers page within =
    contains-insert_all (no_pages size) numbers page (rw (length-no_pages size) within)
    ∙ rw (contains-no_pages size page) refl

-- marks that are taken away again
pub remove_all-marked : (size : ℕ) (numbers : List ℕ) → remove_all (insert_all (no_pages size) numbers) numbers ≡ no_pages size
remove_all-marked size numbers =
    let marks = insert_all (no_pages size) numbers in
    let size_is : length marks ≡ size = length-insert_all (no_pages size) numbers ∙ length-no_pages size in
    remove_all-covered marks numbers (λ page there.
    let within : page < size = omega (arith, lt-length marks page there, size_is) in
    sym (contains-marked size numbers page within) ∙ there)
    ∙ ap no_pages size_is

-- a number past the guest's pages changes nothing
pub insert_past : (pages : List Bool) (page : ℕ) → length pages ≤ page → insert pages page ≡ pages
insert_past pages page past = set_past pages page true past

pub remove_past : (pages : List Bool) (page : ℕ) → length pages ≤ page → remove pages page ≡ pages
remove_past pages page past = set_past pages page false past

-- one more buffer
pub numbers_in-push : (buffers : List (List ℕ)) (bytes : List ℕ) → numbers_in (buffers ++ bytes ∷ []) ≡ numbers_in buffers ++ page_numbers bytes
numbers_in-push buffers bytes = flat_map-append page_numbers buffers (bytes ∷ []) ∙ ap (λ rest. numbers_in buffers ++ rest) (append-nil (page_numbers bytes))

-- each page has a mark or none
pub length-marked : (size : ℕ) (numbers : List ℕ) → length (insert_all (no_pages size) numbers) ≡ size
length-marked size numbers = length-insert_all (no_pages size) numbers ∙ length-no_pages size

-- the marks with those of one more buffer
pub marked-push : (size : ℕ) (numbers added : List ℕ) → insert_all (insert_all (no_pages size) numbers) added ≡ insert_all (no_pages size) (numbers ++ added)
marked-push size numbers added = sym (fold-append insert (no_pages size) numbers added)
