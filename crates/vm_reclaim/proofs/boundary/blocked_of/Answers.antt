use Rattle.std.proofs.Common.{◌≡◌, ◌+◌, ◌++◌, ◌∙◌, ℕ, List, ap, arith, drop, false, sym}
use Rattle.std.proofs.lemmas.List.{length-map}
use Rattle.vm_plan.specs.PlanRow.{row_of, rows_of}
use Rattle.vm_reclaim.specs.Planning.{waiting_from}
use Rattle.vm_reclaim.specs.Reclaim.{blocks_in}
use Rattle.vm_reclaim.proofs.PlanningLemmas.{here-read, none-waits, step-waiting}
use Rattle.vm_reclaim.proofs.boundary.blocked_of.Goals as goal

pub loop-position-preserved : goal.loop-position-preserved
loop-position-preserved c =
    let i = c.loop-position.position in
    let rows = rows_of c.args.rows.now in
    let row = c.index-rows-position.result in
    let blocks = blocks_in c.args.state in
    let ends = c.loop-position.invariant.ends in
    let before = c.loop-position-test.true in
    let wide = length-map c.args.rows.now row_of in
    record {
      ends = ends;
      done = ap (λ (l : List ℕ). l ++ waiting_from (i + 1) blocks (drop (i + 1) rows)) c.in_ok-push_blocked.ensures
          ∙ step-waiting blocks c.loop-position.blocked.items rows i c.waits.result (row_of row) (waiting_from 0 blocks rows) (omega (arith, ends, before, wide))
          (here-read c.args.rows.now i row (omega (arith, ends, before)) c.index-rows-position.is) c.waits.ensures c.loop-position.invariant.done;
    }

pub returns-then-not-blocks_in-clause-list : goal.returns-then-not-blocks_in-clause-list
returns-then-not-blocks_in-clause-list c =
    let rows = rows_of c.args.rows.now in
    let run : blocks_in c.args.state ≡ false = sym c.blocks_in.ensures ∙ c.if-not-blocks_in.true in
    c.new.ensures ∙ (c.new-blocked.ensures.items ∙ sym (ap (λ blocks. waiting_from 0 blocks rows) run ∙ none-waits 0 rows))
