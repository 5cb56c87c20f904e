use Rattle.std.proofs.Common.{◌≤◌, ◌∙◌, ap, subst, refl}
use Rattle.vm_guest.specs.Boundary.{released}
use Rattle.vm_pool.specs.Changes.{with_free, surplus_of}
use Rattle.vm_pool.specs.Slots.{guest_in}
use Rattle.vm_pool.proofs.MoveLemmas.{held-released}
use Rattle.vm_pool.proofs.PoolLemmas.{guest-here, pool-with_free, pool-moved, view-with_free, within-slots}
use Rattle.vm_pool.proofs.pool.Pool.release.Goals as goal

pub invariant_of-self : goal.invariant_of-self
invariant_of-self c =
    let p = c.self.inside in
    let i = c.args.position in
    let was = c.index_mut.result.now in
    let there = within-slots p c.args.self.now i c.self.view_is c.requires.within in
    let here = guest-here p c.args.self.now i was c.self.view_is there c.index_mut.ensures.value in
    let fewer = held-released c.args.count (guest_in was) (subst (λ g. c.args.count ≤ surplus_of g) here c.requires.few) in
    let moves = pool-with_free p i was c.release.new.slot c.release.new.machine (released c.args.count) c.args.count c.self.invariant there c.index_mut.ensures.value c.release.ensures fewer in
    pool-moved p i was c.release.new.slot c.release.new.machine c.release.new.machine p.aside _ c.self.invariant moves refl

pub returns : goal.returns
returns c =
    let p = c.self.inside in
    let i = c.args.position in
    let was = c.index_mut.result.now in
    let there = within-slots p c.args.self.now i c.self.view_is c.requires.within in
    let here = guest-here p c.args.self.now i was c.self.view_is there c.index_mut.ensures.value in
    let fewer = held-released c.args.count (guest_in was) (subst (λ g. c.args.count ≤ surplus_of g) here c.requires.few) in
    let moves = pool-with_free p i was c.release.new.slot c.release.new.machine (released c.args.count) c.args.count c.self.invariant there c.index_mut.ensures.value c.release.ensures fewer in
    view-with_free p i was c.release.new.slot c.release.new.machine (released c.args.count) c.args.count c.self.invariant moves fewer ∙ ap (λ v. with_free (released c.args.count) c.args.count v i) c.self.view_is
