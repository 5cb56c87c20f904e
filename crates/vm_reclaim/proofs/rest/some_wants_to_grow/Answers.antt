use Rattle.std.proofs.Common.{◌∙◌, ◌+◌, ◌||◌, Bool, ap, arith, drop, sym}
use Rattle.std.specs.List.{list_any}
use Rattle.vm_plan.specs.Row.{wants_to_grow}
use Rattle.vm_pool.specs.Guests.{Guests}
use Rattle.vm_reclaim.specs.Rows.{rows_of}
use Rattle.vm_reclaim.proofs.DropLemmas.{drop_guest}
use Rattle.vm_reclaim.proofs.rest.some_wants_to_grow.Goals as goal

pub returns-then-wants_to_grow : goal.returns-then-wants_to_grow
returns-then-wants_to_grow c =
    let i = c.loop-position.position in
    let guests = c.args.pool.now.guests in
    let rest = list_any wants_to_grow (rows_of (drop (i + 1) guests)) in
    let before = c.loop-position-test.true in
    let ends = c.loop-position.invariant.ends in
    ap (λ (b : Bool). b || rest) (sym c.if-wants_to_grow.true ∙ c.wants_to_grow.ensures)
    ∙ (ap (λ (gs : Guests). list_any wants_to_grow (rows_of gs)) (sym (drop_guest guests i (omega (arith, ends, before)))) ∙ c.loop-position.invariant.none)

pub loop-position-preserved : goal.loop-position-preserved
loop-position-preserved c =
    let i = c.loop-position.position in
    let guests = c.args.pool.now.guests in
    let rest = list_any wants_to_grow (rows_of (drop (i + 1) guests)) in
    let before = c.loop-position-test.true in
    let ends = c.loop-position.invariant.ends in
    record {
      ends = ends;
      none = ap (λ (b : Bool). b || rest) (sym c.if-wants_to_grow.false ∙ c.wants_to_grow.ensures)
          ∙ (ap (λ (gs : Guests). list_any wants_to_grow (rows_of gs)) (sym (drop_guest guests i (omega (arith, ends, before)))) ∙ c.loop-position.invariant.none);
    }
