use Rattle.std.proofs.Common.{◌≡◌, ◌∙◌, ◌+◌, ◌<◌, ◌≤◌, ◌++◌, List, ap, arith, drop, get_or, length, sym}
use Rattle.std.proofs.lemmas.List.{length-map, length-set, map-set}
use Rattle.std.proofs.lemmas.List.Elements.{All-set}
use Rattle.vm_plan.specs.declared.row.PlanRow.{PlanRow}
use Rattle.vm_plan.specs.Paging.{page_count_of}
use Rattle.vm_plan.specs.PlanRow.{row_of, rows_of}
use Rattle.vm_plan.specs.Row.{Row}
use Rattle.vm_pool.proofs.FirstLemmas.{end-first_mapped, next-first_mapped, step-first_mapped}
use Rattle.vm_reclaim.specs.declared.lists.Paged.{Paged}
use Rattle.vm_reclaim.specs.Planning.{paged_row, row_counts}
use Rattle.vm_reclaim.specs.Reclaim.{paged_from}
use Rattle.vm_reclaim.proofs.PlanningLemmas.{here-read, step-paged}
use Rattle.vm_reclaim.proofs.boundary.page_rows.Goals as goal

pub loop-position-preserved : goal.loop-position-preserved
loop-position-preserved c =
    let i = c.loop-position.position in
    let now = c.loop-position.rows in
    let old = rows_of c.args.rows.now in
    let read_row = c.index-rows-position.result in
    let row = row_of read_row in
    let new = c.page_row-count.new.row in
    let paged = paged_row c.args.state c.args.page_rate in
    let count = λ (row : Row). page_count_of c.args.state row c.args.page_rate in
    let before = c.loop-position-test.true in
    let long = c.loop-position.invariant.few in
    let wide = length-map c.args.rows.now row_of in
    let there : i < length now = omega (arith, before, long) in
    let within : i < length old = omega (arith, before, wide) in
    let read : get_or (rows_of now) i row ≡ row = here-read now i read_row there c.index-rows-position.is in
    let here : get_or old i row ≡ row = sym (next-first_mapped paged i old row) ∙ (ap (λ (rows : List Row). get_or rows i row) (sym c.loop-position.invariant.rows) ∙ read) in
    let same : row_of (get_or now i read_row) ≡ row = ap row_of (sym c.index-rows-position.is) in
    record {
      ends = c.loop-position.invariant.ends;
      few = length-set now i new ∙ long;
      rows = map-set row_of now i new
          ∙ step-first_mapped paged (rows_of now) old i (row_of new) row c.loop-position.invariant.rows within (c.page_row-count.ensures.row ∙ ap paged (same ∙ sym read));
      told = ap (λ (l : List Paged). l ++ paged_from (i + 1) (row_counts c.args.state c.args.page_rate (drop (i + 1) old))) c.in_ok-push_paged.ensures
          ∙ step-paged count c.loop-position.paged.items old i c.page_row-count.result row (paged_from 0 (row_counts c.args.state c.args.page_rate old)) within here (c.page_row-count.ensures.count ∙ ap count same) c.loop-position.invariant.told;
      held = All-set (λ (row : PlanRow). row.target ≤ row.held) now i new c.page_row-count.ensures.held c.loop-position.invariant.held;
    }

pub returns-clause-rows : goal.returns-clause-rows
returns-clause-rows c =
    let wide = length-map c.args.rows.now row_of in
    let within = c.loop-position.auto.position-end in
    let past = c.loop-position-test.false in
    end-first_mapped (paged_row c.args.state c.args.page_rate) (rows_of c.loop-position.rows) (rows_of c.args.rows.now) c.loop-position.position c.loop-position.invariant.rows
    (omega (arith, within, wide)) (omega (arith, past, wide))
