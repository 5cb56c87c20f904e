-- From what is told of one sample to what is told of the next.
use Rattle.std.specs.Prelude.{ℕ, ◌+◌, ◌-◌, ◌*◌, ◌^◌, ◌==◌, Bool, List, [], ◌∷◌, drop, map, max, min, nat_le, nat_lt, Option, Some, None, Result, Ok, Err, slice_get, unwrap_or, if◌then◌else◌}
use Rattle.vm_plan.specs.declared.state.State.{State}
use Rattle.vm_plan.specs.declared.state.State.TheVariants.{High}
use Rattle.vm_plan.specs.Row.{Row}
use Rattle.vm_plan.specs.State.{next_state_of}
use Rattle.vm_samples.specs.Policies.{PolicyView}
use Rattle.vm_samples.specs.Samples.{DomainView}
use Rattle.vm_steer.specs.declared.fate.Fate.{Fate}
use Rattle.vm_steer.specs.declared.fate.Fate.TheVariants.{Left, Steered}
use Rattle.vm_steer.specs.declared.fate.LeftDomain.{LeftDomain}
use Rattle.vm_steer.specs.declared.fate.SteeredDomain.{SteeredDomain}
use Rattle.vm_steer.specs.declared.outcome.Outcome.{Outcome}
use Rattle.vm_steer.specs.declared.why.Why.{Why}
use Rattle.vm_steer.specs.Deciding.{course_of, free_of, given_of, outcomes_of, thresholds_in}
use Rattle.vm_steer.specs.Entries.{EntryView, ToldView, remembered_in}
use Rattle.vm_steer.specs.Look.{look_of}
use Rattle.vm_steer.specs.Numbers.{units_up}
use Rattle.vm_steer.specs.NumbersView.{NumbersView, row_of}
use Rattle.vm_steer.specs.Order.{in_order, names_of}
use Rattle.vm_steer.specs.Remembered.{RememberedView}

-- ---- the domains, one by one

-- the units that a domain that is left alone holds
abbrev pub left_held : (unit : ℕ) → (current : Option ℕ) → ℕ
left_held unit None = 0
left_held unit (Some current) = min (2 ^ 54) (units_up unit current)

abbrev pub left_by : (held : ℕ) → Option RememberedView → Result NumbersView Why → Result NumbersView LeftDomain
left_by held last (Ok numbers) = Ok numbers
left_by held last (Err why) = Err (record { held = held; why = why; remembered = last })

-- the numbers of a domain, or how it is left alone, where this is remembered of it; `names` are those of the sample
unfoldable pub sight_of : PolicyView → (names : List (List ℕ)) → Option RememberedView → DomainView → Result NumbersView LeftDomain
sight_of policy names last d = left_by (left_held policy.unit d.current) last (look_of policy names last d)

-- ---- what they hold together

-- what was promised to a domain
abbrev pub promised_to : Option RememberedView → ℕ
promised_to None = 0
promised_to (Some last) = last.target

-- the overhead of a domain, and what one that is left alone holds and was promised
abbrev pub rest_with : (overhead : ℕ) → Result NumbersView LeftDomain → ℕ
rest_with overhead (Ok numbers) = overhead
rest_with overhead (Err left) = overhead + max left.held (promised_to left.remembered)

abbrev pub rest_of : (overhead : ℕ) → List (Result NumbersView LeftDomain) → ℕ
rest_of overhead [] = 0
rest_of overhead (sight ∷ sights) = rest_with overhead sight + rest_of overhead sights

-- a row for each that is steered
abbrev pub with_row : Result NumbersView LeftDomain → List Row → List Row
with_row (Ok numbers) rows = row_of numbers ∷ rows
with_row (Err left) rows = rows

abbrev pub rows_in : List (Result NumbersView LeftDomain) → List Row
rows_in [] = []
rows_in (sight ∷ sights) = with_row sight (rows_in sights)

-- ---- orders

-- the KiB of so many units of a domain: of its size it is all that it may hold, unless the policy's greatest is below
abbrev pub kib_of : (unit : ℕ) → NumbersView → (units : ℕ) → ℕ
kib_of unit numbers units = if units == numbers.size then numbers.full else units * unit

-- Where it holds more than its target it is lowered, by no more than the rate; where it holds less it is raised, if what is raised is there.
abbrev pub order_of : PolicyView → (may_rise : Bool) → NumbersView → (target : ℕ) → Option ℕ
order_of policy may_rise numbers target =
    if nat_lt target numbers.measures.held then Some (kib_of policy.unit numbers (max target (numbers.measures.held - policy.rate)))
    else (if nat_lt numbers.measures.held target then (if may_rise then Some (kib_of policy.unit numbers target) else None) else None)

-- what is remembered of a domain that is steered
abbrev pub remembered_with : NumbersView → (target : ℕ) → RememberedView
remembered_with numbers target = record {
  target = target;
  slow = numbers.measures.slow;
  fast = numbers.measures.fast;
  swap_in = numbers.measures.swap_in;
  held = numbers.measures.held;
  still = numbers.limits.still;
}

unfoldable pub steered_by : PolicyView → (may_rise : Bool) → NumbersView → Outcome → SteeredDomain
steered_by policy may_rise numbers outcome = record {
  remembered = remembered_with numbers outcome.target;
  size = numbers.size;
  used = numbers.measures.used;
  active = numbers.measures.active;
  shares = numbers.shares;
  min = numbers.limits.min;
  cap = numbers.limits.cap;
  demand = numbers.demand;
  revoked = outcome.revoked;
  granted = outcome.granted;
  rebalanced = outcome.rebalanced;
  order = order_of policy may_rise numbers outcome.target;
}

-- ---- what comes of them

-- what is decided where there is no row
abbrev pub undecided : Outcome
undecided = record { revoked = 0; granted = 0; rebalanced = 0; target = 0 }

abbrev pub fate_of : PolicyView → (may_rise : Bool) → Result NumbersView LeftDomain → Option Outcome → Fate
fate_of policy may_rise (Err left) outcome = Left left
fate_of policy may_rise (Ok numbers) outcome = Steered (steered_by policy may_rise numbers (unwrap_or outcome undecided))

-- the outcomes of the rows behind
abbrev pub outcomes_behind : Result NumbersView LeftDomain → List Outcome → List Outcome
outcomes_behind (Err left) outcomes = outcomes
outcomes_behind (Ok numbers) outcomes = drop 1 outcomes

abbrev pub entry_of : PolicyView → (may_rise : Bool) → (name : List ℕ) → Result NumbersView LeftDomain → Option Outcome → EntryView
entry_of policy may_rise name sight outcome = record { name = name; fate = fate_of policy may_rise sight outcome }

-- each steered domain with the outcome of its row, which stand in the same order
abbrev pub entries_of : PolicyView → (may_rise : Bool) → (names : List (List ℕ)) → List (Result NumbersView LeftDomain) → List Outcome → List EntryView
entries_of policy may_rise [] sights outcomes = []
entries_of policy may_rise (name ∷ names) [] outcomes = []
entries_of policy may_rise (name ∷ names) (sight ∷ sights) outcomes =
    entry_of policy may_rise name sight (slice_get outcomes 0) ∷ entries_of policy may_rise names sights (outcomes_behind sight outcomes)

-- ---- the fold

-- before the first sample
abbrev pub nothing_told : PolicyView → ToldView
nothing_told policy = record { state = High; free = policy.memory; domains = [] }

-- the domains in order, each its numbers or how it is left alone
abbrev pub sights_of : PolicyView → List EntryView → List DomainView → List (Result NumbersView LeftDomain)
sights_of policy last ordered = map (λ d. sight_of policy (names_of ordered) (remembered_in last d.name) d) ordered

-- what is told of domains that have these names and numbers, or are left alone
unfoldable pub told_by : PolicyView → State → (names : List (List ℕ)) → List (Result NumbersView LeftDomain) → ToldView
told_by policy last names sights =
    let rows = rows_in sights in
    let rest = rest_of policy.overhead sights in
    let free = free_of policy rest rows in
    let state = next_state_of last free (thresholds_in policy) in
    let outcomes = outcomes_of (course_of policy state rest rows) in
    let may_rise = nat_le (given_of rest rows) policy.memory in
    record { state = state; free = free; domains = entries_of policy may_rise names sights outcomes }

-- what is told of domains in order
abbrev pub told_in_order : PolicyView → ToldView → List DomainView → ToldView
told_in_order policy last ordered = told_by policy last.state (names_of ordered) (sights_of policy last.domains ordered)

-- what is told of a sample, after what was told of the good one before
abbrev pub next_told : PolicyView → ToldView → List DomainView → ToldView
next_told policy last domains = told_in_order policy last (in_order domains)
