-- Sums over rows, row by row.
use Rattle.std.proofs.Common.{◌≡◌, ◌∙◌, ℕ, ◌+◌, ◌-◌, ◌<◌, List, drop, get_or, length, sym, ap, arith}
use Rattle.std.proofs.lemmas.List.{drop_more}
use Rattle.vm_plan.specs.declared.row.PlanRow.{PlanRow}
use Rattle.vm_plan.specs.PlanRow.{row_of as plan_row, rows_of as plan_rows}
use Rattle.vm_plan.specs.Row.{Row}
use Rattle.vm_steer.specs.Deciding.{total}

sum_split : (number : Row → ℕ) (rows : List PlanRow) (n : ℕ) (row : PlanRow) (part : ℕ) → n < length rows → row ≡ get_or rows n row → part ≡ number (plan_row row)
    → total number (plan_rows (drop n rows)) ≡ part + total number (plan_rows (drop (n + 1) rows))
sum_split number rows n row part there is same =
    ap (λ (l : List PlanRow). total number (plan_rows l)) (drop_more rows n row there)
    ∙ (ap (λ (r : PlanRow). number (plan_row r) + total number (plan_rows (drop (n + 1) rows))) (sym is)
    ∙ ap (λ k. k + total number (plan_rows (drop (n + 1) rows))) (sym same))

-- one row more is added
pub step_total : (number : Row → ℕ) (rows : List PlanRow) (n : ℕ) (row : PlanRow) (sum part whole : ℕ) → n < length rows → row ≡ get_or rows n row → part ≡ number (plan_row row)
    → sum + total number (plan_rows (drop n rows)) ≡ whole → (sum + part) + total number (plan_rows (drop (n + 1) rows)) ≡ whole
step_total number rows n row sum part whole there is same done =
    let split = sum_split number rows n row part there is same in omega (arith, split, done)

-- one row more is taken off
pub step_less : (number : Row → ℕ) (rows : List PlanRow) (n : ℕ) (row : PlanRow) (left part after whole : ℕ) → n < length rows → row ≡ get_or rows n row → part ≡ number (plan_row row) → after ≡ left - part
    → left - total number (plan_rows (drop n rows)) ≡ whole → after - total number (plan_rows (drop (n + 1) rows)) ≡ whole
step_less number rows n row left part after whole there is same taken done =
    let split = sum_split number rows n row part there is same in omega (arith, split, done, taken)
