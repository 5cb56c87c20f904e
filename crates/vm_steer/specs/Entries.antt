-- What is told of a sample, and remembered of it.
use Rattle.std.specs.Prelude.{ℕ, zero, suc, List, [], ◌∷◌, bytes_eq, map, Option, Some, None, if◌then◌else◌}
use Rattle.vm_plan.specs.declared.state.State.{State}
use Rattle.vm_steer.specs.declared.fate.Fate.{Fate}
use Rattle.vm_steer.specs.declared.fate.Fate.TheVariants.{Left, Steered}
use Rattle.vm_steer.specs.Remembered.{RememberedView}

-- a domain, and what comes of it
pub record EntryView : Type 0 where
  pub name : List ℕ
  pub fate : Fate

-- the state of the host, what was free, and the domains in order
pub record ToldView : Type 0 where
  pub state : State
  pub free : ℕ
  pub domains : List EntryView

-- what is remembered of a domain: where it is left alone, as it was
abbrev pub remembered_of : Fate → Option RememberedView
remembered_of (Left left) = left.remembered
remembered_of (Steered steered) = Some steered.remembered

-- what is remembered of the domain with a name
abbrev pub remembered_in : List EntryView → (name : List ℕ) → Option RememberedView
remembered_in [] name = None
remembered_in (e ∷ entries) name = if bytes_eq e.name name then remembered_of e.fate else remembered_in entries name

-- the names of domains
abbrev pub names_in : List EntryView → List (List ℕ)
names_in entries = map (λ e. e.name) entries

-- ---- for private contracts alone

-- what is remembered of the domain at a place
abbrev pub remembered_at : List EntryView → (place : ℕ) → Option RememberedView
remembered_at [] place = None
remembered_at (e ∷ entries) zero = remembered_of e.fate
remembered_at (e ∷ entries) (suc place) = remembered_at entries place
