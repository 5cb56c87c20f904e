use Rattle.std.proofs.Common.{◌∙◌, List, ap, map, rules, subst}
use Rattle.std.proofs.lemmas.List.{map-append}
use Rattle.std.specs.List.{concat}
use Rattle.std.specs.Io.KnownBytes.{Appends}
use Rattle.std.specs.Vec.Iter.{into_iter_items}
use Rattle.vm_sweep.specs.Orders.{Order}
use Rattle.vm_sweep.specs.Table.{record_of}
use Rattle.vm_sweep.specs.Written.{HasTold}
use Rattle.vm_sweep.proofs.WrittenLemmas.{fails-in, told-more}
use Rattle.vm_sweep.proofs.sweeping.write_runs.Goals as goal

pub returns-in_err-write_records-clause-failed : goal.returns-in_err-write_records-clause-failed
returns-in_err-write_records-clause-failed g c =
    let at = ap (map record_of) c.in_ok-done.ensures.done ∙ map-append record_of c.in_ok-done.done.items (into_iter_items c.run_next.new.left) in
    fails-in _ _ _ _ (map record_of c.in_ok-done.done.items) _ (subst (HasTold _ _ _) at c.loop-alloc.invariant.told) c.from_residual-in_err-write_records.result
    (rw (← c.deref.ensures.value) (search rules))

pub loop-alloc-preserved : goal.loop-alloc-preserved
loop-alloc-preserved g c =
    let at = ap (map record_of) c.in_ok-done.ensures.done ∙ map-append record_of c.in_ok-done.done.items (into_iter_items c.run_next.new.left) in
    record {
      told = told-more _ _ _ _ (map record_of c.in_ok-done.done.items) _ (subst (HasTold _ _ _) at c.loop-alloc.invariant.told)
          (subst (λ (orders : List Order). Appends (g.W.Sink.contents c.loop-alloc.writer) (g.W.Sink.contents c.write_records.new.writer) (concat (map record_of orders))) c.deref.ensures.value c.in_ok-write_records.ensures.done);
      stays = c.in_ok-write_records.ensures.stays ∙ c.loop-alloc.invariant.stays;
      counted = c.in_ok-done.ensures.counted;
      under_way = c.in_ok-done.ensures.under_way;
      places = c.in_ok-done.ensures.places ∙ c.loop-alloc.invariant.places;
    }
