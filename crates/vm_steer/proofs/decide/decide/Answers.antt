use Rattle.std.proofs.Common.{◌≡◌, ◌∙◌, List, IfOk, length, subst, sym, ap}
use Rattle.std.proofs.lemmas.List.{length-map}
use Rattle.vm_plan.specs.PlanRow.{row_of, rows_of}
use Rattle.vm_plan.specs.Revocation.{rows_after}
use Rattle.vm_plan.specs.Row.{Row}
use Rattle.vm_steer.specs.declared.outcome.Outcome.{Outcome}
use Rattle.vm_steer.specs.Deciding.{by_position, grants_in, rebalances_in, rows_granted}
use Rattle.vm_steer.specs.Turns.{differences_at, AreLowered, AreRaised}
use Rattle.vm_steer.proofs.CourseLemmas.{course_told}
use Rattle.vm_steer.proofs.decide.decide.Goals as goal

pub returns : goal.returns
returns c =
    let policy = c.args.policy.now in
    let state = c.args.state in
    let free = c.free_of-free.result in
    let rows = rows_of c.args.rows.now in
    let fallen = rows_of c.in_ok-fallen.fallen.items in
    let risen = rows_of c.in_ok-risen.risen.items in
    let after = rows_of c.in_ok-after.after.items in
    let low : rows_of c.deref.result.now ≡ fallen = ap rows_of c.deref.ensures.value in
    let high : rows_of c.deref-2.result.now ≡ risen = ap rows_of c.deref-2.ensures.value in
    let told = course_told policy state c.args.rest free (length c.args.rows.now) rows fallen risen after
    c.free_of-free.ensures (sym (length-map c.args.rows.now row_of)) c.in_ok-fallen.ensures.rows c.in_ok-fallen.ensures.lowered
    (subst (λ (r : List Row). risen ≡ rows_granted free r (grants_in policy state free r)) low c.in_ok-risen.ensures.rows)
    (subst (λ (r : List Row). AreRaised (grants_in policy state free r) r risen) low c.in_ok-risen.ensures.raised)
    (subst (λ (r : List Row). after ≡ rows_after r (rebalances_in policy r)) high c.in_ok-after.ensures.rows)
    (subst (λ (r : List Row). AreLowered (rebalances_in policy r) r after) high c.in_ok-after.ensures.lowered) in
    let read : by_position (differences_at rows (rows_of c.deref-3.result.now) (rows_of c.deref-4.result.now) (rows_of c.deref-5.result.now)) (length c.args.rows.now)
    ≡ by_position (differences_at rows fallen risen after) (length c.args.rows.now) =
    λ i. by_position (differences_at rows (rows_of (c.deref-3.ensures.value i)) (rows_of (c.deref-4.ensures.value i)) (rows_of (c.deref-5.ensures.value i))) (length c.args.rows.now) in
    subst (λ (l : List Outcome). IfOk c.differences.result (λ outcomes. outcomes.items ≡ l)) (read ∙ told) c.differences.ensures
