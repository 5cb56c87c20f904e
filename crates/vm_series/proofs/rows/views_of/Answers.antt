use Rattle.std.proofs.Common.{List, Option, ap, arith, length}
use Rattle.std.proofs.lemmas.List.FromFn.{length-map-range_with_len}
use Rattle.vm_guest.specs.declared.view.GuestView.{GuestView}
use Rattle.vm_series.proofs.RowLemmas.{map_more}
use Rattle.vm_series.specs.Rows.{view_at}
use Rattle.vm_series.proofs.rows.views_of.Goals as goal

pub loop-position-preserved : goal.loop-position-preserved
loop-position-preserved c =
    map_more (view_at c.args.host.now) c.loop-position.position _ _ c.view.result c.loop-position.invariant c.in_ok-push.ensures.items c.view.ensures

pub returns-clause-few : goal.returns-clause-few
returns-clause-few c =
    let shown = ap (λ (views : List (Option GuestView)). length views) c.loop-position.invariant in
    let counted = length-map-range_with_len (view_at c.args.host.now) 0 c.loop-position.position in
    let within = c.loop-position.auto.position-end in
    let few = c.len-position-end.ensures.few in
    omega (arith, shown, counted, within, few)
