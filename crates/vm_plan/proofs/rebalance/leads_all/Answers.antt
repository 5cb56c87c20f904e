use Rattle.std.proofs.Common.{◌≡◌, ◌≢◌, ℕ, ◌<◌, ◌≤◌, List, Option, IfSome, length, slice_get, ⊎_elim, refl, sym, ◌∙◌, subst, arith}
use Rattle.std.proofs.lemmas.Bool.{cases_eq, cases_lt, false≢true}
use Rattle.std.proofs.lemmas.List.{length-map}
use Rattle.std.proofs.lemmas.Option.{slice_get_past}
use Rattle.vm_tax.specs.Price.{ratio_of}
use Rattle.vm_tax.specs.Ratio.{hundredths}
use Rattle.vm_plan.specs.PlanRow.{row_of, rows_of}
use Rattle.vm_plan.specs.Row.{Row}
use Rattle.vm_plan.specs.Runs.{Leads}
use Rattle.vm_plan.proofs.GrantLemmas.{row_at}
use Rattle.vm_plan.proofs.rebalance.leads_all.Goals as goal

pub loop-i-preserved : goal.loop-i-preserved
loop-i-preserved c =
    let rows = c.args.rows.now in
    let tax = hundredths c.args.tax in
    let price = ratio_of c.args.price.now in
    let i = c.loop-i.i in
    let r = c.index-rows-i.result in
    let at = row_at rows i r (omega arith) c.index-rows-i.is in
    record {
      led = λ k l. ⊎_elim
          (λ (same : k ≡ i).
          let here = subst (λ (o : Option Row). IfSome o (λ row. Leads tax price c.args.position row i)) (sym at) (c.leads.ensures.0 c.if-not-leads.false) in
          subst (λ (n : ℕ). IfSome (slice_get (rows_of rows) n) (λ row. Leads tax price c.args.position row n)) (sym same) here)
          (λ (ne : k ≢ i). c.loop-i.invariant.led k (omega arith))
          (cases_eq k i);
    }

pub returns-then-not-leads : goal.returns-then-not-leads
returns-then-not-leads c =
    let rows = c.args.rows.now in
    let tax = hundredths c.args.tax in
    let price = ratio_of c.args.price.now in
    let i = c.loop-i.i in
    let at = row_at rows i c.index-rows-i.result (omega arith) c.index-rows-i.is in (
      λ e. absurd (false≢true e),
      λ all.
          let lead = subst (λ (o : Option Row). IfSome o (λ row. Leads tax price c.args.position row i)) at (all i) in
          absurd (false≢true (sym c.if-not-leads.true ∙ c.leads.ensures.1 lead)),
    )

-- past the end there is nobody
led_all : (P : ℕ → Row → Type 0) (rows : List Row) (n : ℕ) → length rows ≤ n → ((k : ℕ) → k < n → IfSome (slice_get rows k) (P k)) → (k : ℕ) → IfSome (slice_get rows k) (P k)
led_all P rows n wide led k =
    ⊎_elim
    (λ (l : k < n). led k l)
    (λ (l : n ≤ k). subst (λ (o : Option Row). IfSome o (P k)) (sym (slice_get_past rows k (omega arith))) tt)
    (cases_lt k n)

pub returns : goal.returns
returns c =
    let rows = c.args.rows.now in
    let wide = length-map rows row_of in (
      λ yes. led_all (λ k row. Leads (hundredths c.args.tax) (ratio_of c.args.price.now) c.args.position row k) (rows_of rows) c.loop-i.i (omega arith) c.loop-i.invariant.led,
      λ all. refl,
    )
