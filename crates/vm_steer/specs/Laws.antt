-- What is true of every sample: of what is decided for it after any others.
use Rattle.std.specs.Prelude.{ℕ, ◌≡◌, ◌+◌, ◌-◌, ◌<◌, ◌≤◌, ◌⊎◌, ◌==◌, ◌&&◌, ⊤, Bool, true, false, List, [], ◌∷◌, Some, None, Result, Ok, Err, IfSome, max, not}
use Rattle.std.specs.List.{list_all}
use Rattle.vm_plan.specs.Moves.{EachMove}
use Rattle.vm_plan.specs.Rebalancing.{rows_given}
use Rattle.vm_plan.specs.Revocation.{rows_after}
use Rattle.vm_plan.specs.Row.{Row, revocable_ratios}
use Rattle.vm_plan.specs.declared.state.State.{State}
use Rattle.vm_samples.specs.Policies.{PolicyView}
use Rattle.vm_samples.specs.Samples.{DomainView}
use Rattle.vm_steer.specs.declared.fate.Fate.{Fate}
use Rattle.vm_steer.specs.declared.fate.Fate.TheVariants.{Left, Steered}
use Rattle.vm_steer.specs.declared.fate.LeftDomain.{LeftDomain}
use Rattle.vm_steer.specs.declared.fate.SteeredDomain.{SteeredDomain}
use Rattle.vm_steer.specs.Deciding.{course_of, free_of, given_of, rows_granted, tax_of, total_targets, Course}
use Rattle.vm_steer.specs.Entries.{EntryView, ToldView}
use Rattle.vm_steer.specs.NumbersView.{NumbersView}
use Rattle.vm_steer.specs.Order.{in_order}
use Rattle.vm_steer.specs.Told.{kib_of, next_told, rest_of, rows_in, sights_of}
use Rattle.vm_tax.specs.Offers.{IsLeast}

-- ---- a sample, after what was told of the good one before

-- the rows of its steered domains, as they are made
abbrev pub rows_made : PolicyView → ToldView → List DomainView → List Row
rows_made policy last domains = rows_in (sights_of policy last.domains (in_order domains))

-- what is held and promised beside them
abbrev pub rest_made : PolicyView → ToldView → List DomainView → ℕ
rest_made policy last domains = rest_of policy.overhead (sights_of policy last.domains (in_order domains))

abbrev pub state_found : PolicyView → ToldView → List DomainView → State
state_found policy last domains = (next_told policy last domains).state

-- what is decided
abbrev pub course_taken : PolicyView → ToldView → List DomainView → Course
course_taken policy last domains = course_of policy (state_found policy last domains) (rest_made policy last domains) (rows_made policy last domains)

-- ---- bounds

-- the units that a domain is lowered to: by no more than the rate at once
abbrev pub units_lowered : (rate : ℕ) → NumbersView → (target : ℕ) → ℕ
units_lowered rate n target = max target (n.measures.held - rate)

-- Where a domain of these numbers is lowered, its order is of at least its minimum, and of at least what it holds less the rate; where it is
-- raised the order is of at least its minimum and at most its cap. The cap is at most its size.
pub record IsOrderedWithin (policy : PolicyView) (n : NumbersView) (s : SteeredDomain) : Type 0 where
  pub size : n.limits.cap ≤ n.size
  pub lowered : s.remembered.target < n.measures.held → s.order ≡ Some (kib_of policy.unit n (units_lowered policy.rate n s.remembered.target))
  pub lowered_min : n.limits.min ≤ units_lowered policy.rate n s.remembered.target
  pub lowered_rate : n.measures.held - policy.rate ≤ units_lowered policy.rate n s.remembered.target
  pub raised : n.measures.held < s.remembered.target → IfSome s.order (λ kib. kib ≡ kib_of policy.unit n s.remembered.target)
  pub raised_min : n.limits.min ≤ s.remembered.target
  pub raised_cap : s.remembered.target ≤ n.limits.cap
  pub kept : n.measures.held ≡ s.remembered.target → s.order ≡ None

abbrev pub IsWithin : PolicyView → Result NumbersView LeftDomain → Fate → Type 0
IsWithin policy (Err left) (Left l) = ⊤
IsWithin policy (Err left) (Steered s) = ⊥
IsWithin policy (Ok n) (Left left) = ⊥
IsWithin policy (Ok n) (Steered s) = IsOrderedWithin policy n s

-- each domain is left alone, or ordered within the bounds of its numbers
abbrev pub AreWithin : PolicyView → List (Result NumbersView LeftDomain) → List EntryView → Type 0
AreWithin policy [] [] = ⊤
AreWithin policy [] (e ∷ entries) = ⊥
AreWithin policy (sight ∷ sights) [] = ⊥
AreWithin policy (sight ∷ sights) (e ∷ entries) = IsWithin policy sight e.fate × AreWithin policy sights entries

abbrev pub KeepsBounds : PolicyView → ToldView → List DomainView → Type 0
KeepsBounds policy last domains = AreWithin policy (sights_of policy last.domains (in_order domains)) (next_told policy last domains).domains

-- ---- promise

-- what is meant to be held is no more than it was, or it is there beside the rest
abbrev pub KeepsPromise : PolicyView → ToldView → List DomainView → Type 0
KeepsPromise policy last domains =
    (total_targets (course_taken policy last domains).rows ≤ total_targets (rows_made policy last domains))
    ⊎ (total_targets (course_taken policy last domains).rows + rest_made policy last domains ≤ policy.memory)

-- none of these is raised
abbrev pub IsNotRaised : Fate → Type 0
IsNotRaised (Left left) = ⊤
IsNotRaised (Steered s) = s.remembered.held < s.remembered.target → s.order ≡ None

abbrev pub NoneRaised : List EntryView → Type 0
NoneRaised [] = ⊤
NoneRaised (e ∷ entries) = IsNotRaised e.fate × NoneRaised entries

-- nothing is raised where more is held and promised than there is
abbrev pub RaisesWhatIsThere : PolicyView → ToldView → List DomainView → Type 0
RaisesWhatIsThere policy last domains =
    policy.memory < given_of (rest_made policy last domains) (rows_made policy last domains) → NoneRaised (next_told policy last domains).domains

-- ---- fairness (min-funding revocation with a tax on idle memory: Waldspurger, OSDI 2002, sections 5.1 and 5.2)

-- each of these takes from a domain above its minimum whose adjusted ratio is least then
abbrev pub TakesFromLeast : PolicyView → (after : List ℕ → List Row) → List ℕ → Type 0
TakesFromLeast policy after moves = EachMove (λ before position. IsLeast (revocable_ratios (tax_of policy) (after before)) position) moves

-- the rows once targets rose
abbrev pub rows_risen : PolicyView → ToldView → List DomainView → List Row
rows_risen policy last domains =
    let rest = rest_made policy last domains in
    let fallen = rows_after (rows_made policy last domains) (course_taken policy last domains).revoked in
    rows_granted (free_of policy rest (rows_made policy last domains)) fallen (course_taken policy last domains).granted

pub record IsFair (policy : PolicyView) (last : ToldView) (domains : List DomainView) : Type 0 where
  pub revoked : TakesFromLeast policy (rows_after (rows_made policy last domains)) (course_taken policy last domains).revoked
  -- domains that take count as having what earlier entries gave them
  pub rebalanced : TakesFromLeast policy (rows_given (tax_of policy) (rows_risen policy last domains)) (course_taken policy last domains).rebalanced

-- ---- bad samples

-- each line begins with `#`; `starts` says whether a line starts here
abbrev pub are_comments : (starts : Bool) → List ℕ → Bool
are_comments starts [] = true
are_comments true (byte ∷ bytes) = byte == 35 && are_comments false bytes
are_comments false (byte ∷ bytes) = are_comments (byte == 10) bytes

-- ---- fields of the table

-- a byte that a field may have without quotes (RFC 4180): no comma, no quote, no CR and no LF
abbrev pub is_bare : ℕ → Bool
is_bare byte = not (byte == 44) && (not (byte == 34) && (not (byte == 13) && not (byte == 10)))

abbrev pub IsBare : List ℕ → Type 0
IsBare field = list_all is_bare field ≡ true

abbrev pub AreBare : List (List ℕ) → Type 0
AreBare [] = ⊤
AreBare (field ∷ fields) = IsBare field × AreBare fields
