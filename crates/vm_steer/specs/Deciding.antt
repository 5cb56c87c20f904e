-- What is decided for a sample, over the rows of its steered domains: its state, whose targets fall, whose rise, and whose fall for
-- domains that would pay more for the memory (Waldspurger, OSDI 2002, sections 5.1, 5.2 and 6.3).
use Rattle.std.specs.Prelude.{ℕ, zero, suc, ◌+◌, ◌-◌, ◌==◌, List, [], ◌∷◌, ◌++◌, length, min, slice_get, if◌then◌else◌}
use Rattle.std.specs.Option.{option_map_or}
use Rattle.vm_plan.specs.declared.state.State.{State}
use Rattle.vm_plan.specs.declared.state.State.TheVariants.{High, Soft, Hard, Low}
use Rattle.vm_plan.specs.declared.thresholds.Thresholds.{Thresholds}
use Rattle.vm_plan.specs.Grants.{grant_list, pool_after}
use Rattle.vm_plan.specs.Rebalancing.{rebalancing_list}
use Rattle.vm_plan.specs.Revocation.{revocation_list, rows_after}
use Rattle.vm_plan.specs.Row.{Row}
use Rattle.vm_plan.specs.Thresholds.{thresholds_of}
use Rattle.vm_samples.specs.Policies.{PolicyView}
use Rattle.vm_steer.specs.declared.outcome.Outcome.{Outcome}
use Rattle.vm_tax.specs.Ratio.{Tax, hundredths}

abbrev pub tax_of : PolicyView → Tax
tax_of policy = hundredths policy.tax

abbrev pub thresholds_in : PolicyView → Thresholds
thresholds_in policy = thresholds_of 10000 policy.memory policy.percents

-- ---- sums over rows

-- a number of each row, taken together
abbrev pub total : (Row → ℕ) → List Row → ℕ
total number [] = 0
total number (row ∷ rows) = number row + total number rows

abbrev pub total_held : List Row → ℕ
total_held rows = total (λ row. row.held) rows

abbrev pub total_targets : List Row → ℕ
total_targets rows = total (λ row. row.target) rows

-- what a guest wants and may have
abbrev pub unmet_of : Row → ℕ
unmet_of row = min row.demand (row.cap - row.target)

abbrev pub unmet_in : List Row → ℕ
unmet_in rows = total unmet_of rows

-- what comes of a domain's balloon: from one that wants more nothing does
abbrev pub coming_from : Row → ℕ
coming_from row = if row.demand == 0 then row.held - row.target else 0

abbrev pub on_its_way : List Row → ℕ
on_its_way rows = total coming_from rows

-- ---- the lists, each on what the one before left; `rest` is what is held beside the rows

-- what is held and promised
abbrev pub given_of : (rest : ℕ) → List Row → ℕ
given_of rest rows = rest + total_held rows

abbrev pub free_of : PolicyView → (rest : ℕ) → List Row → ℕ
free_of policy rest rows = policy.memory - given_of rest rows

-- how many revocations the goal wants; in High none
abbrev pub wanted_in : PolicyView → State → (rest : ℕ) → List Row → ℕ
wanted_in policy High rest rows = 0
wanted_in policy Soft rest rows = ((thresholds_in policy).goal + (rest + total_targets rows)) - policy.memory
wanted_in policy Hard rest rows = ((thresholds_in policy).goal + (rest + total_targets rows)) - policy.memory
wanted_in policy Low rest rows = ((thresholds_in policy).goal + (rest + total_targets rows)) - policy.memory

abbrev pub revocations_in : PolicyView → State → (rest : ℕ) → List Row → List ℕ
revocations_in policy state rest rows = revocation_list (tax_of policy) (wanted_in policy state rest rows) rows

abbrev pub grants_in : PolicyView → State → (free : ℕ) → List Row → List ℕ
grants_in policy state free rows = grant_list state (thresholds_in policy) (tax_of policy) (record { free = free; rows = rows })

-- the rows after grants
abbrev pub rows_granted : (free : ℕ) → List Row → List ℕ → List Row
rows_granted free rows grants = (pool_after (record { free = free; rows = rows }) grants).rows

-- the most that moves: no more than is wanted, less what is on its way
abbrev pub most_moved : PolicyView → List Row → ℕ
most_moved policy rows = min policy.rebalance (unmet_in rows) - on_its_way rows

abbrev pub rebalances_in : PolicyView → List Row → List ℕ
rebalances_in policy rows = rebalancing_list (tax_of policy) (most_moved policy rows) rows

-- ---- what comes of them

-- how often a position is in a list
abbrev pub entries_of : (position : ℕ) → List ℕ → ℕ
entries_of position [] = 0
entries_of position (p ∷ moves) = (if p == position then 1 else 0) + entries_of position moves

-- the three lists, and the rows after them
pub record Course : Type 0 where
  pub revoked : List ℕ
  pub granted : List ℕ
  pub rebalanced : List ℕ
  pub rows : List Row

unfoldable pub course_of : PolicyView → State → (rest : ℕ) → List Row → Course
course_of policy state rest rows =
    let revoked = revocations_in policy state rest rows in
    let fallen = rows_after rows revoked in
    let granted = grants_in policy state (free_of policy rest rows) fallen in
    let risen = rows_granted (free_of policy rest rows) fallen granted in
    let rebalanced = rebalances_in policy risen in
    record { revoked = revoked; granted = granted; rebalanced = rebalanced; rows = rows_after risen rebalanced }

-- the target of the row at a position
abbrev pub target_at : List Row → ℕ → ℕ
target_at rows position = option_map_or (λ row. row.target) (slice_get rows position) 0

-- what is decided for the row at a position
abbrev pub outcome_at : Course → (position : ℕ) → Outcome
outcome_at course position = record {
  revoked = entries_of position course.revoked;
  granted = entries_of position course.granted;
  rebalanced = entries_of position course.rebalanced;
  target = target_at course.rows position;
}

-- what is told of each position below a number
abbrev pub by_position : (ℕ → Outcome) → ℕ → List Outcome
by_position told zero = []
by_position told (suc n) = by_position told n ++ told n ∷ []

-- what is decided for each row
unfoldable pub outcomes_of : Course → List Outcome
outcomes_of course = by_position (outcome_at course) (length course.rows)
