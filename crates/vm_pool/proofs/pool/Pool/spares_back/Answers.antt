use Rattle.std.proofs.Common.{◌∙◌, sym, refl}
use Rattle.vm_guest.specs.Boundary.{without_spares}
use Rattle.vm_pool.specs.Changes.{with_free, spares_of}
use Rattle.vm_pool.specs.Slots.{guest_in}
use Rattle.vm_pool.proofs.MoveLemmas.{held-spares}
use Rattle.vm_pool.proofs.PoolLemmas.{guest-here, pool-with_free, pool-moved, view-with_free, within-slots}
use Rattle.vm_pool.proofs.pool.Pool.spares_back.Goals as goal

pub invariant_of-self : goal.invariant_of-self
invariant_of-self c =
    let p = c.self.inside in
    let i = c.args.position in
    let was = c.index_mut.result.now in
    let there = within-slots p c.args.self.now i c.self.view_is c.requires in
    let fewer = held-spares (guest_in was) in
    let moves = pool-with_free p i was c.spares_back.new.slot c.spares_back.new.machine without_spares (spares_of (guest_in was)) c.self.invariant there c.index_mut.ensures.value c.spares_back.ensures fewer in
    pool-moved p i was c.spares_back.new.slot c.spares_back.new.machine c.spares_back.new.machine p.aside _ c.self.invariant moves refl

pub returns : goal.returns
returns c =
    let p = c.self.inside in
    let i = c.args.position in
    let was = c.index_mut.result.now in
    let there = within-slots p c.args.self.now i c.self.view_is c.requires in
    let here = guest-here p c.args.self.now i was c.self.view_is there c.index_mut.ensures.value in
    let fewer = held-spares (guest_in was) in
    let moves = pool-with_free p i was c.spares_back.new.slot c.spares_back.new.machine without_spares (spares_of (guest_in was)) c.self.invariant there c.index_mut.ensures.value c.spares_back.ensures fewer in
    view-with_free p i was c.spares_back.new.slot c.spares_back.new.machine without_spares (spares_of (guest_in was)) c.self.invariant moves fewer ∙ (λ j. with_free without_spares (spares_of (sym here j)) (c.self.view_is j) i)
