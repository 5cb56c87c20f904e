use Rattle.std.proofs.Common.{◌≡◌, ◌≢◌, ◌∙◌, ◌<◌, sym, ap, subst, refl}
use Rattle.vm_board.specs.Gates.{PassedOnce}
use Rattle.vm_pool.specs.Changes.{after_epoch}
use Rattle.vm_pool.specs.Pool.{PoolView, running_count}
use Rattle.vm_host.specs.declared.phase.Phase.TheVariants.{Waiting, Failed}
use Rattle.vm_host.specs.Epoch.{after_epoch as world_after_epoch}
use Rattle.vm_host.specs.Parts.{world_of, IsTied}
use Rattle.vm_host.specs.World.{World, Conserves, with_pool}
use Rattle.vm_host.proofs.PhaseLemmas.{failed-memory, is-failed, left-err, left-ok, memory-failed, not-failed, ok-err}
use Rattle.vm_host.proofs.SoundLemmas.{books-ran, paired-domains, ready-else, sound-ran}
use Rattle.vm_host.proofs.host.Host.epoch_alone.Goals as goal

-- ---- the host has failed

pub returns-then-eq-clause-failed : goal.returns-then-eq-clause-failed
returns-then-eq-clause-failed g c =
    let w = world_of c.self.inside.parts in
    (λ _. ap (λ (w : World). w.phase) (sym c.self.view_is) ∙ is-failed w.phase (sym c.eq.ensures ∙ c.if-eq.true), λ _. refl)

pub returns-then-eq-clause-memory : goal.returns-then-eq-clause-memory
returns-then-eq-clause-memory g c = λ is. failed-memory is

pub returns-then-eq-clause-conserves : goal.returns-then-eq-clause-conserves
returns-then-eq-clause-conserves g c = subst (λ (w : World). Conserves w) c.self.view_is c.self.invariant.adds_up

-- ---- it is ready

pub epoch_alone-requires : goal.epoch_alone-requires
epoch_alone-requires g c =
    let w = world_of c.self.inside.parts in
    let waits : w.phase ≢ Waiting = λ is. c.requires.ready (ap (λ (w : World). w.phase) (sym c.self.view_is) ∙ is) in
    let fails : w.phase ≢ Failed = not-failed w.phase (sym c.eq.ensures ∙ c.if-eq.false) in
    (c.type_bounds.send-G-Outside, (c.type_bounds.send-G-Inside, (c.self.invariant.sound fails).served (ready-else w.phase waits fails)))

-- ---- memory was refused

pub invariant_of-self : goal.invariant_of-self
invariant_of-self g c =
    let w = world_of c.self.inside.parts in
    let same = left-err c.epoch_alone.result (c.epoch_alone.new.self ≡ w.pool) (sym c.is_err.ensures.value ∙ c.if-is_err.true) c.epoch_alone.ensures.unchanged in
    subst (λ (p : PoolView). IsTied (record c.self.inside.parts { pool = p }) c.self.inside.books) (sym same) c.self.invariant

pub returns-then-is_err-clause-failed : goal.returns-then-is_err-clause-failed
returns-then-is_err-clause-failed g c =
    let w = world_of c.self.inside.parts in
    let fails : w.phase ≢ Failed = not-failed w.phase (sym c.eq.ensures ∙ c.if-eq.false) in
    (λ is. memory-failed is, λ is. absurd (fails (ap (λ (w : World). w.phase) c.self.view_is ∙ is)))

pub returns-then-is_err-clause-unchanged : goal.returns-then-is_err-clause-unchanged
returns-then-is_err-clause-unchanged g c =
    let w = world_of c.self.inside.parts in
    let same = left-err c.epoch_alone.result (c.epoch_alone.new.self ≡ w.pool) (sym c.is_err.ensures.value ∙ c.if-is_err.true) c.epoch_alone.ensures.unchanged in
    ap (λ (p : PoolView). with_pool w p) same ∙ c.self.view_is

pub returns-then-is_err-clause-memory : goal.returns-then-is_err-clause-memory
returns-then-is_err-clause-memory g c =
    let w = world_of c.self.inside.parts in
    λ _. subst (λ (w : World). 0 < running_count w.pool.guests) c.self.view_is
    (left-err c.epoch_alone.result (0 < running_count w.pool.guests) (sym c.is_err.ensures.value ∙ c.if-is_err.true) c.epoch_alone.ensures.memory)

pub returns-then-is_err-clause-conserves : goal.returns-then-is_err-clause-conserves
returns-then-is_err-clause-conserves g c =
    let w = world_of c.self.inside.parts in
    let same = left-err c.epoch_alone.result (c.epoch_alone.new.self ≡ w.pool) (sym c.is_err.ensures.value ∙ c.if-is_err.true) c.epoch_alone.ensures.unchanged in
    subst (λ (p : PoolView). Conserves (with_pool w p)) (sym same) c.self.invariant.adds_up

-- ---- the epoch is done

pub invariant_of-self-2 : goal.invariant_of-self-2
invariant_of-self-2 g c =
    let w = world_of c.self.inside.parts in
    let waits : w.phase ≢ Waiting = λ is. c.requires.ready (ap (λ (w : World). w.phase) (sym c.self.view_is) ∙ is) in
    let fails : w.phase ≢ Failed = not-failed w.phase (sym c.eq.ensures ∙ c.if-eq.false) in
    let ran = left-ok c.epoch_alone.result (c.epoch_alone.new.self ≡ after_epoch w.pool) (sym c.is_err.ensures.value ∙ c.if-is_err.false) c.epoch_alone.ensures.done in
    let sound = sound-ran w c.epoch_alone.new.self waits fails ran (c.self.invariant.sound fails) in
    record { paired = paired-domains _ sound; adds_up = sound.conserves; sound = λ _. sound; booked = λ _. c.self.invariant.booked fails ∙ books-ran w c.epoch_alone.new.self ran }

pub returns-clause-done : goal.returns-clause-done
returns-clause-done g c =
    let w = world_of c.self.inside.parts in
    let ran = left-ok c.epoch_alone.result (c.epoch_alone.new.self ≡ after_epoch w.pool) (sym c.is_err.ensures.value ∙ c.if-is_err.false) c.epoch_alone.ensures.done in
    ap (λ (p : PoolView). record w { pool = p; phase = Waiting }) ran ∙ ap world_after_epoch c.self.view_is

pub returns-clause-failed : goal.returns-clause-failed
returns-clause-failed g c =
    let w = world_of c.self.inside.parts in
    let fails : w.phase ≢ Failed = not-failed w.phase (sym c.eq.ensures ∙ c.if-eq.false) in
    (λ is. ok-err is, λ is. absurd (fails (ap (λ (w : World). w.phase) c.self.view_is ∙ is)))

pub returns-clause-memory : goal.returns-clause-memory
returns-clause-memory g c = λ is. ok-err is

pub returns-clause-conserves : goal.returns-clause-conserves
returns-clause-conserves g c =
    let w = world_of c.self.inside.parts in
    let waits : w.phase ≢ Waiting = λ is. c.requires.ready (ap (λ (w : World). w.phase) (sym c.self.view_is) ∙ is) in
    let fails : w.phase ≢ Failed = not-failed w.phase (sym c.eq.ensures ∙ c.if-eq.false) in
    let ran = left-ok c.epoch_alone.result (c.epoch_alone.new.self ≡ after_epoch w.pool) (sym c.is_err.ensures.value ∙ c.if-is_err.false) c.epoch_alone.ensures.done in
    (sound-ran w c.epoch_alone.new.self waits fails ran (c.self.invariant.sound fails)).conserves

pub returns-clause-good : goal.returns-clause-good
returns-clause-good g c =
    let w = world_of c.self.inside.parts in
    let waits : w.phase ≢ Waiting = λ is. c.requires.ready (ap (λ (w : World). w.phase) (sym c.self.view_is) ∙ is) in
    let fails : w.phase ≢ Failed = not-failed w.phase (sym c.eq.ensures ∙ c.if-eq.false) in
    let ran = left-ok c.epoch_alone.result (c.epoch_alone.new.self ≡ after_epoch w.pool) (sym c.is_err.ensures.value ∙ c.if-is_err.false) c.epoch_alone.ensures.done in
    (sound-ran w c.epoch_alone.new.self waits fails ran (c.self.invariant.sound fails)).pool.good

pub returns-clause-passed : goal.returns-clause-passed
returns-clause-passed g c =
    let w = world_of c.self.inside.parts in
    subst (λ (w : World). PassedOnce g.G.Gate.passed 1 (running_count w.pool.guests)) c.self.view_is
    (left-ok c.epoch_alone.result (PassedOnce g.G.Gate.passed 1 (running_count w.pool.guests)) (sym c.is_err.ensures.value ∙ c.if-is_err.false) c.epoch_alone.ensures.passed)
