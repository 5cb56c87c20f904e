use Rattle.std.proofs.Common.{◌<◌, ◌≤◌, ◌∙◌, sym, subst, refl}
use Rattle.std.specs.Option.{IfSome, IsSomeAnd}
use Rattle.vm_guest.specs.Record.{GuestRecord}
use Rattle.vm_pool.specs.Changes.{lacking, spent, with_min_held}
use Rattle.vm_pool.specs.Slots.{guest_in}
use Rattle.vm_pool.proofs.MoveLemmas.{held-min}
use Rattle.vm_pool.proofs.PoolLemmas.{fits-free, guest-here, holds-out, on_err, pool-moved, pool-spent, settled-at, view-spent, within-slots}
use Rattle.vm_pool.proofs.pool.Pool.set_min.Goals as goal

pub set_min-requires-clause-to : goal.set_min-requires-clause-to
set_min-requires-clause-to c =
    let p = c.self.inside in
    let i = c.args.position in
    let there = within-slots p c.args.self.now i c.self.view_is c.requires.within in
    let here = guest-here p c.args.self.now i c.index_mut.result.now c.self.view_is there c.index_mut.ensures.value in
    subst (λ guest. IfSome guest (λ (g : GuestRecord). c.args.least ≤ g.allotment.cap)) here c.requires.to

pub set_min-requires-clause-enough : goal.set_min-requires-clause-enough
set_min-requires-clause-enough c =
    let p = c.self.inside in
    let i = c.args.position in
    let was = c.index_mut.result.now in
    let there = within-slots p c.args.self.now i c.self.view_is c.requires.within in
    let here = guest-here p c.args.self.now i was c.self.view_is there c.index_mut.ensures.value in
    fits-free p c.args.self.now (lacking c.args.least (guest_in was)) c.self.invariant c.self.view_is
    (subst (λ guest. lacking c.args.least guest ≤ c.args.self.now.free) here c.requires.enough)

pub set_min-requires-clause-settled : goal.set_min-requires-clause-settled
set_min-requires-clause-settled c =
    let there = within-slots c.self.inside c.args.self.now c.args.position c.self.view_is c.requires.within in
    settled-at c.self.inside c.args.position c.index_mut.result.now c.self.invariant there c.index_mut.ensures.value

pub set_min-requires-clause-out : goal.set_min-requires-clause-out
set_min-requires-clause-out c =
    let there = within-slots c.self.inside c.args.self.now c.args.position c.self.view_is c.requires.within in
    holds-out c.self.inside c.args.position c.index_mut.result.now c.self.invariant there c.index_mut.ensures.value

pub returns-in_err-set_min-clause-lowered : goal.returns-in_err-set_min-clause-lowered
returns-in_err-set_min-clause-lowered c =
    let p = c.self.inside in
    let i = c.args.position in
    let there = within-slots p c.args.self.now i c.self.view_is c.requires.within in
    let here = guest-here p c.args.self.now i c.index_mut.result.now c.self.view_is there c.index_mut.ensures.value in
    on_err c.from_residual.result _
    (subst (λ guest. IsSomeAnd guest (λ (g : GuestRecord). c.args.least < g.allotment.least_min)) (sym here) c.in_err-set_min.ensures.lowered)

pub invariant_of-self-2 : goal.invariant_of-self-2
invariant_of-self-2 c =
    let p = c.self.inside in
    let i = c.args.position in
    let was = c.index_mut.result.now in
    let there = within-slots p c.args.self.now i c.self.view_is c.requires.within in
    let here = guest-here p c.args.self.now i was c.self.view_is there c.index_mut.ensures.value in
    let more = held-min c.args.least (guest_in was) in
    let enough = subst (λ v. lacking c.args.least (guest_in was) ≤ v.free) (sym c.self.view_is) (subst (λ g. lacking c.args.least g ≤ c.args.self.now.free) here c.requires.enough) in
    let moves = pool-spent p i was c.set_min.new.slot c.set_min.new.machine (with_min_held c.args.least) (lacking c.args.least (guest_in was)) c.self.invariant there c.index_mut.ensures.value c.in_ok-set_min.ensures.done more enough in
    pool-moved p i was c.set_min.new.slot c.set_min.new.machine c.set_min.new.machine p.aside _ c.self.invariant moves refl

pub returns-clause-done : goal.returns-clause-done
returns-clause-done c =
    let p = c.self.inside in
    let i = c.args.position in
    let was = c.index_mut.result.now in
    let there = within-slots p c.args.self.now i c.self.view_is c.requires.within in
    let here = guest-here p c.args.self.now i was c.self.view_is there c.index_mut.ensures.value in
    let more = held-min c.args.least (guest_in was) in
    let enough = subst (λ v. lacking c.args.least (guest_in was) ≤ v.free) (sym c.self.view_is) (subst (λ g. lacking c.args.least g ≤ c.args.self.now.free) here c.requires.enough) in
    let moves = pool-spent p i was c.set_min.new.slot c.set_min.new.machine (with_min_held c.args.least) (lacking c.args.least (guest_in was)) c.self.invariant there c.index_mut.ensures.value c.in_ok-set_min.ensures.done more enough in
    view-spent p i was c.set_min.new.slot c.set_min.new.machine (with_min_held c.args.least) (lacking c.args.least (guest_in was)) moves more
    ∙ (λ j. spent (with_min_held c.args.least) (lacking c.args.least (sym here j)) (c.self.view_is j) i)
