-- What is decided, by the rows after each list.
use Rattle.std.proofs.Common.{◌≡◌, ◌∙◌, ℕ, List, length, ap}
use Rattle.vm_plan.specs.declared.state.State.{State}
use Rattle.vm_plan.specs.Revocation.{rows_after}
use Rattle.vm_plan.specs.Row.{Row}
use Rattle.vm_samples.specs.Policies.{PolicyView}
use Rattle.vm_steer.specs.Deciding.{by_position, course_of, free_of, grants_in, outcomes_of, rebalances_in, revocations_in, rows_granted, Course}
use Rattle.vm_steer.specs.Turns.{differences_at, AreLowered, AreRaised}
use Rattle.vm_steer.proofs.TurnLemmas.{outcomes_are}

pub course_told : (policy : PolicyView) (state : State) (rest free n : ℕ) (rows fallen risen after : List Row) → free ≡ free_of policy rest rows → n ≡ length rows
    → fallen ≡ rows_after rows (revocations_in policy state rest rows) → AreLowered (revocations_in policy state rest rows) rows fallen
    → risen ≡ rows_granted free fallen (grants_in policy state free fallen) → AreRaised (grants_in policy state free fallen) fallen risen
    → after ≡ rows_after risen (rebalances_in policy risen) → AreLowered (rebalances_in policy risen) risen after
    → by_position (differences_at rows fallen risen after) n ≡ outcomes_of (course_of policy state rest rows)
unfolding outcomes_of course_of
course_told policy state rest free n rows fallen risen after is many fell down rose up moved last =
    let course : Course = record { revoked = revocations_in policy state rest rows; granted = grants_in policy state free fallen; rebalanced = rebalances_in policy risen; rows = after } in
    let grown = rose ∙ (λ i. rows_granted (is i) (fell i) (grants_in policy state (is i) (fell i))) in
    let left = moved ∙ ap (λ (rs : List Row). rows_after rs (rebalances_in policy rs)) grown in
    let same : course ≡ course_of policy state rest rows =
    λ i. record { revoked = revocations_in policy state rest rows; granted = grants_in policy state (is i) (fell i); rebalanced = rebalances_in policy (grown i); rows = left i } in
    ap (by_position (differences_at rows fallen risen after)) many
    ∙ (outcomes_are course rows fallen risen down up last ∙ ap outcomes_of same)
