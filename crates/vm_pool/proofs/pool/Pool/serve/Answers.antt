use Rattle.std.proofs.Common.{◌∙◌, ap, refl}
use Rattle.vm_guest.specs.Boundary.{serviced}
use Rattle.vm_pool.specs.Changes.{changed}
use Rattle.vm_pool.proofs.PoolLemmas.{pool-changed, pool-moved, view-changed, within-slots}
use Rattle.vm_pool.proofs.SlotLemmas.{keeps-serviced}
use Rattle.vm_pool.proofs.pool.Pool.serve.Goals as goal

pub invariant_of-self : goal.invariant_of-self
invariant_of-self c =
    let p = c.self.inside in
    let i = c.args.position in
    let was = c.index_mut.result.now in
    let there = within-slots p c.args.self.now i c.self.view_is c.requires in
    let moves = pool-changed p i was c.serve.new.slot serviced keeps-serviced c.self.invariant there c.index_mut.ensures.value c.serve.ensures in
    pool-moved p i was c.serve.new.slot p.machine p.machine p.aside _ c.self.invariant moves refl

pub returns : goal.returns
returns c =
    let p = c.self.inside in
    let i = c.args.position in
    let was = c.index_mut.result.now in
    let there = within-slots p c.args.self.now i c.self.view_is c.requires in
    let moves = pool-changed p i was c.serve.new.slot serviced keeps-serviced c.self.invariant there c.index_mut.ensures.value c.serve.ensures in
    view-changed p i was c.serve.new.slot serviced moves ∙ ap (λ v. changed serviced v i) c.self.view_is
