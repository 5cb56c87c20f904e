use Rattle.std.proofs.Common.{◌≡◌, ◌+◌, ◌-◌, ◌<◌, ◌≤◌, ℕ, List, slice_index, ⊎_elim, subst, arith}
use Rattle.std.proofs.lemmas.Bool.{cases_lt}
use Rattle.vm_programs.proofs.vmsweep.checks.is_rising.Goals as goal

-- one more value above the one before it
rises-on : (list : List ℕ) (index : ℕ) → ((k : ℕ) → k + 1 < index → slice_index list k < slice_index list (k + 1))
    → slice_index list (index - 1) < slice_index list index → (k : ℕ) → k + 1 < index + 1 → slice_index list k < slice_index list (k + 1)
rises-on list index so_far last k less =
    ⊎_elim (so_far k)
    (λ (past : index ≤ k + 1).
    let here : index ≡ k + 1 = omega (arith, less, past) in
    let before : index - 1 ≡ k = omega (arith, here) in
    subst (λ n. slice_index list k < slice_index list n) here (subst (λ m. slice_index list m < slice_index list index) before last))
    (cases_lt (k + 1) index)

pub loop-index-preserved : goal.loop-index-preserved
loop-index-preserved c =
    rises-on c.args.list.now c.loop-index.index c.loop-index.invariant
    (omega (arith, c.value_at.ensures, c.value_at-in-loop-index.ensures, c.if-value_at.false))
