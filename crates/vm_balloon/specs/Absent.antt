-- Pages that a set doesn't have.
use Rattle.std.specs.Prelude.{ℕ, ◌≡◌, Bool, false, List, All}
use Rattle.vm_pages.specs.Pages.{contains}

-- none of the listed pages is in the set
abbrev pub AreAbsent : List Bool → List ℕ → Type 0
AreAbsent pages listed = All (λ page. contains pages page ≡ false) listed
