use Rattle.std.proofs.Common.{◌∙◌, ◌+◌, ℕ, List, ap, drop, sym}
use Rattle.vm_sweep.specs.Combinations.{NamedList, looped_at, spread_each, spread_over}
use Rattle.vm_sweep.specs.declared.variant.Variant.{Variant}
use Rattle.vm_sweep.proofs.SpreadLemmas.{drop-item}
use Rattle.vm_sweep.proofs.lists.spread_each.Goals as goal

pub loop-list-preserved : goal.loop-list-preserved
loop-list-preserved c =
    let setting = c.args.setting in
    let config = c.args.config.now in
    let rest = drop (c.loop-list.list-index + 1) c.args.lists.now in
    let at = drop-item c.args.lists.now c.loop-list.list-index c.list-item.result c.loop-list-test.true c.list-item.is in
    let before = c.loop-list.variants.items in
    ap (λ (vs : List Variant). spread_each setting config rest vs)
    (c.in_ok-more.ensures
    ∙ ap (λ (vs : List Variant). spread_over (looped_at setting c.place_in-place.result) c.values.result.now vs) c.deref.ensures.value
    ∙ ap (λ (values : List ℕ). spread_over (looped_at setting c.place_in-place.result) values before) c.values.ensures
    ∙ ap (λ (place : ℕ). spread_over (looped_at setting place) c.list-item.result.values before) c.place_in-place.ensures)
    ∙ sym (ap (λ (lists : List NamedList). spread_each setting config lists before) at) ∙ c.loop-list.invariant
