-- Domains of a sample one after the other: for private contracts alone.
use Rattle.std.specs.Prelude.{ℕ, List, map, Result, Ok, Err}
use Rattle.vm_samples.specs.Policies.{PolicyView}
use Rattle.vm_samples.specs.Samples.{DomainView}
use Rattle.vm_steer.specs.declared.fate.LeftDomain.{LeftDomain}
use Rattle.vm_steer.specs.Entries.{EntryView, remembered_in}
use Rattle.vm_steer.specs.NumbersView.{NumbersView}
use Rattle.vm_steer.specs.Told.{sight_of}

-- some domains of a sample that has these names
abbrev pub sights_behind : PolicyView → (names : List (List ℕ)) → List EntryView → List DomainView → List (Result NumbersView LeftDomain)
sights_behind policy names last domains = map (λ d. sight_of policy names (remembered_in last d.name) d) domains

-- how many rows it has
abbrev pub rows_of_one : Result NumbersView LeftDomain → ℕ
rows_of_one (Ok numbers) = 1
rows_of_one (Err left) = 0
