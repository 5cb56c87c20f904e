use Rattle.std.proofs.Common.{◌<◌, ◌≤◌, ◌∙◌, List, length, map, sym, ap, subst}
use Rattle.std.specs.Prelude.{All}
use Rattle.vm_board.specs.Gates.{PassedOnce}
use Rattle.vm_pool.specs.declared.slot.Slot.{Slot}
use Rattle.vm_pool.specs.Changes.{after_epoch, IsServed}
use Rattle.vm_pool.specs.Pool.{PoolView, running_count}
use Rattle.vm_pool.specs.Slots.{guest_in}
use Rattle.vm_pool.proofs.PoolLemmas.{on_err, pool-run, pool-same, view-run, view-same}
use Rattle.vm_pool.proofs.pool.Pool.epoch_alone.Goals as goal

pub run_epochs_alone-requires-clause-few : goal.run_epochs_alone-requires-clause-few
run_epochs_alone-requires-clause-few g c = λ κs met. subst (λ (slots : List Slot). length slots ≤ 256) (sym c.deref_mut.ensures.value) c.self.invariant.few

pub run_epochs_alone-requires-clause-served : goal.run_epochs_alone-requires-clause-served
run_epochs_alone-requires-clause-served g c =
    λ κs met. subst (λ (slots : List Slot). All IsServed (map guest_in slots)) (sym c.deref_mut.ensures.value)
    (subst (λ (v : PoolView). All IsServed v.guests) (sym c.self.view_is) c.requires)

pub returns-in_err-run_epochs_alone-clause-memory : goal.returns-in_err-run_epochs_alone-clause-memory
returns-in_err-run_epochs_alone-clause-memory g c =
    on_err c.from_residual.result _
    (subst (λ (v : PoolView). 0 < running_count v.guests) c.self.view_is
    (subst (λ (slots : List Slot). 0 < running_count (map guest_in slots)) c.deref_mut.ensures.value c.in_err-run_epochs_alone.ensures.memory))

pub returns-clause-passed : goal.returns-clause-passed
returns-clause-passed g c =
    subst (λ (v : PoolView). PassedOnce g.G.Gate.passed 1 (running_count v.guests)) c.self.view_is
    (subst (λ (slots : List Slot). PassedOnce g.G.Gate.passed 1 (running_count (map guest_in slots))) c.deref_mut.ensures.value c.in_ok-run_epochs_alone.ensures.passed)

pub invariant_of-self : goal.invariant_of-self
invariant_of-self g c =
    pool-same c.self.inside c.deref_mut.result.now c.run_epochs_alone.new.slots c.self.invariant c.deref_mut.ensures.value c.deref_mut.ensures.len c.in_err-run_epochs_alone.ensures.same

pub returns-in_err-run_epochs_alone-clause-unchanged : goal.returns-in_err-run_epochs_alone-clause-unchanged
returns-in_err-run_epochs_alone-clause-unchanged g c =
    on_err c.from_residual.result _
    (view-same c.self.inside c.deref_mut.result.now c.run_epochs_alone.new.slots c.self.invariant c.deref_mut.ensures.value c.deref_mut.ensures.len c.in_err-run_epochs_alone.ensures.same ∙ c.self.view_is)

pub invariant_of-self-2 : goal.invariant_of-self-2
invariant_of-self-2 g c =
    pool-run c.self.inside c.deref_mut.result.now c.run_epochs_alone.new.slots c.self.invariant c.deref_mut.ensures.value c.deref_mut.ensures.len c.in_ok-run_epochs_alone.ensures.run

pub returns-clause-done : goal.returns-clause-done
returns-clause-done g c =
    view-run c.self.inside c.deref_mut.result.now c.run_epochs_alone.new.slots c.self.invariant c.deref_mut.ensures.value c.deref_mut.ensures.len c.in_ok-run_epochs_alone.ensures.run
    ∙ ap after_epoch c.self.view_is
