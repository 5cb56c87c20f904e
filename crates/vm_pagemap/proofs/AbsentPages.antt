-- A map all of whose pages are absent: no page is in either set.
use Rattle.std.proofs.Common.{◌≡◌, ℕ, ◌<◌, Bool, true, false, List, length, get_or, refl, sym, ap, ◌∙◌, arith}
use Rattle.std.proofs.lemmas.List.{get_or-replicate}
use Rattle.vm_pages.specs.Pages.{no_pages, contains}
use Rattle.vm_pages.proofs.PageSets.{same_pages, length-no_pages, contains-no_pages}
use Rattle.vm_pagemap.specs.declared.page_map.Page.{Page}
use Rattle.vm_pagemap.specs.declared.page_map.Page.TheVariants.{Absent, In, Out}
use Rattle.vm_pagemap.specs.declared.page_map.Held.{Held}
use Rattle.vm_pagemap.specs.PageMap.{absent_pages, page_at, is_in}
use Rattle.vm_pagemap.specs.Kept.{held_at, page_of, pages_of}
use Rattle.vm_pagemap.proofs.Kept.{page_at-pages_of}

abbrev is_out : Page → Bool
is_out Absent = false
is_out (In frame) = false
is_out Out = true

-- a page that is absent is in neither set
in_none : (h : Held) (b out : Bool) → page_of h b out ≡ Absent → (b ≡ false) × (out ≡ false)
in_none h true out is = let no : true ≡ false = ap is_in is in absurd (cc)
in_none h false true is = let no : true ≡ false = ap is_out is in absurd (cc)
in_none h false false is = (refl, refl)

each_in_none : (r o : List Bool) (slots : List ℕ) (held : List Held) → pages_of r o slots held ≡ absent_pages (length r) → (page : ℕ) → page < length r
    → (contains r page ≡ false) × (contains o page ≡ false)
each_in_none r o slots held all page there =
    in_none (held_at held (get_or slots page 0)) (contains r page) (contains o page)
    (sym (page_at-pages_of r o slots held page there) ∙ ap (λ pages. page_at pages page) all ∙ get_or-replicate (length r) page Absent Absent there)

pub none_in : (r o : List Bool) (slots : List ℕ) (held : List Held) → pages_of r o slots held ≡ absent_pages (length r) → r ≡ no_pages (length r)
none_in r o slots held all =
    same_pages r (no_pages (length r)) (sym (length-no_pages (length r)))
    (λ page there. (each_in_none r o slots held all page there).0 ∙ sym (contains-no_pages (length r) page))

pub none_out : (r o : List Bool) (slots : List ℕ) (held : List Held) → length o ≡ length r → pages_of r o slots held ≡ absent_pages (length r) → o ≡ no_pages (length r)
none_out r o slots held same all =
    same_pages o (no_pages (length r)) (same ∙ sym (length-no_pages (length r)))
    (λ page there. (each_in_none r o slots held all page (omega (arith, there, same))).1 ∙ sym (contains-no_pages (length r) page))
