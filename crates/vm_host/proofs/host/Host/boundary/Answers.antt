use Rattle.std.proofs.Common.{◌∙◌, ◌<◌, ℕ, List, ⊎_elim, ap, arith, inl, inr, length, map, refl, string_bytes, subst, sym}
use Rattle.std.proofs.lemmas.List.{length-map}
use Rattle.vm_host.specs.Boundary.{boundary_of, past_boundary, FailsAfterSome}
use Rattle.vm_host.specs.Fairness.{IsFairBoundary, IsFairRebalancing}
use Rattle.vm_host.specs.Parts.{world_of}
use Rattle.vm_host.specs.Sound.{IsSoundWorld}
use Rattle.vm_host.specs.World.{Conserves, FailsFrom, World}
use Rattle.vm_host.proofs.FailLemmas.{fails-from, fails-some, fails-whole, paired-kept}
use Rattle.vm_host.proofs.FairnessLemmas.{fair-bounded, fair-rebalanced}
use Rattle.vm_host.proofs.KeptLemmas.{ready-bounded}
use Rattle.vm_host.proofs.LineLemmas.{bounded-sound}
use Rattle.vm_host.proofs.PhaseLemmas.{failed-memory, is-failed, memory-failed, not-failed, ok-err}
use Rattle.vm_host.proofs.SoundLemmas.{paired-domains}
use Rattle.vm_reclaim.specs.Policy.{policy_of}
use Rattle.vm_host.proofs.host.Host.boundary.Goals as goal

-- ---- the host has failed

pub same-self : goal.same-self
same-self c = refl

pub returns-then-eq-clause-failed : goal.returns-then-eq-clause-failed
returns-then-eq-clause-failed c =
    let failed = is-failed c.self.inside.parts.phase (sym c.eq.ensures ∙ c.if-eq.true) in
    (λ _. ap (λ (w : World). w.phase) (sym c.self.view_is) ∙ failed, λ _. refl)

pub returns-then-eq-clause-unchanged : goal.returns-then-eq-clause-unchanged
returns-then-eq-clause-unchanged c = λ _. refl

pub returns-then-eq-clause-memory : goal.returns-then-eq-clause-memory
returns-then-eq-clause-memory c = λ is. failed-memory is

pub returns-then-eq-clause-wanted : goal.returns-then-eq-clause-wanted
returns-then-eq-clause-wanted c = λ is. failed-memory is

pub returns-then-eq-clause-kept : goal.returns-then-eq-clause-kept
returns-then-eq-clause-kept c = λ is. failed-memory is

pub returns-then-eq-clause-conserves : goal.returns-then-eq-clause-conserves
returns-then-eq-clause-conserves c = subst (λ (w : World). Conserves w) c.self.view_is c.self.invariant.adds_up

-- ---- it has not

pub bound-requires-clause-sound : goal.bound-requires-clause-sound
bound-requires-clause-sound c =
    let fails = not-failed c.self.inside.parts.phase (sym c.eq.ensures ∙ c.if-eq.false) in
    c.self.invariant.sound fails

pub bound-requires-clause-booked : goal.bound-requires-clause-booked
bound-requires-clause-booked c =
    let fails = not-failed c.self.inside.parts.phase (sym c.eq.ensures ∙ c.if-eq.false) in
    c.self.invariant.booked fails

-- ---- the boundary is done

pub invariant_of-self : goal.invariant_of-self
invariant_of-self c =
    let w = world_of c.self.inside.parts in
    let lines = map string_bytes c.as_slice.result.now in
    let fails = not-failed w.phase (sym c.eq.ensures ∙ c.if-eq.false) in
    let sound = subst (λ (v : World). IsSoundWorld v) (sym c.in-Ok.ensures.done) (bounded-sound (policy_of w.machine) w lines (c.self.invariant.sound fails)) in
    record { paired = paired-domains _ sound; adds_up = sound.conserves; sound = λ _. sound; booked = λ _. c.in-Ok.ensures.booked }

pub returns-in-Ok-clause-done : goal.returns-in-Ok-clause-done
returns-in-Ok-clause-done c = c.in-Ok.ensures.done ∙ (λ j. past_boundary (c.self.view_is j) (c.as_slice.ensures j))

pub returns-in-Ok-clause-told : goal.returns-in-Ok-clause-told
returns-in-Ok-clause-told c = c.in-Ok.ensures.told ∙ (λ j. boundary_of (c.self.view_is j) (c.as_slice.ensures j))

pub returns-in-Ok-clause-ready : goal.returns-in-Ok-clause-ready
returns-in-Ok-clause-ready c =
    let w = world_of c.self.inside.parts in
    let lines = map string_bytes c.as_slice.result.now in
    ap (λ (v : World). v.phase) c.in-Ok.ensures.done ∙ ready-bounded (policy_of w.machine) w lines

pub returns-in-Ok-clause-failed : goal.returns-in-Ok-clause-failed
returns-in-Ok-clause-failed c =
    let fails = not-failed c.self.inside.parts.phase (sym c.eq.ensures ∙ c.if-eq.false) in
    (λ is. ok-err is, λ is. absurd (fails (ap (λ (v : World). v.phase) c.self.view_is ∙ is)))

pub returns-in-Ok-clause-unchanged : goal.returns-in-Ok-clause-unchanged
returns-in-Ok-clause-unchanged c = λ is. ok-err is

pub returns-in-Ok-clause-memory : goal.returns-in-Ok-clause-memory
returns-in-Ok-clause-memory c = λ is. ok-err is

pub returns-in-Ok-clause-wanted : goal.returns-in-Ok-clause-wanted
returns-in-Ok-clause-wanted c = λ is. ok-err is

pub returns-in-Ok-clause-kept : goal.returns-in-Ok-clause-kept
returns-in-Ok-clause-kept c = λ is. ok-err is

pub returns-in-Ok-clause-conserves : goal.returns-in-Ok-clause-conserves
returns-in-Ok-clause-conserves c =
    let w = world_of c.self.inside.parts in
    let lines = map string_bytes c.as_slice.result.now in
    let fails = not-failed w.phase (sym c.eq.ensures ∙ c.if-eq.false) in
    let sound = subst (λ (v : World). IsSoundWorld v) (sym c.in-Ok.ensures.done) (bounded-sound (policy_of w.machine) w lines (c.self.invariant.sound fails)) in
    sound.conserves

pub returns-in-Ok-clause-good : goal.returns-in-Ok-clause-good
returns-in-Ok-clause-good c =
    let w = world_of c.self.inside.parts in
    let lines = map string_bytes c.as_slice.result.now in
    let fails = not-failed w.phase (sym c.eq.ensures ∙ c.if-eq.false) in
    let sound = subst (λ (v : World). IsSoundWorld v) (sym c.in-Ok.ensures.done) (bounded-sound (policy_of w.machine) w lines (c.self.invariant.sound fails)) in
    sound.pool.good

pub returns-in-Ok-clause-fair : goal.returns-in-Ok-clause-fair
returns-in-Ok-clause-fair c =
    let w = world_of c.self.inside.parts in
    let lines = map string_bytes c.as_slice.result.now in
    let fails = not-failed w.phase (sym c.eq.ensures ∙ c.if-eq.false) in
    let fair = fair-bounded (policy_of w.machine) w lines (c.self.invariant.sound fails) in
    subst (λ (l : List (List ℕ)). IsFairBoundary (policy_of c.args.self.now.machine) c.args.self.now l) c.as_slice.ensures
    (subst (λ (v : World). IsFairBoundary (policy_of v.machine) v lines) c.self.view_is fair)

pub returns-in-Ok-clause-rebalanced : goal.returns-in-Ok-clause-rebalanced
returns-in-Ok-clause-rebalanced c =
    let w = world_of c.self.inside.parts in
    let lines = map string_bytes c.as_slice.result.now in
    let fails = not-failed w.phase (sym c.eq.ensures ∙ c.if-eq.false) in
    let fair = fair-rebalanced (policy_of w.machine) w lines (c.self.invariant.sound fails) in
    subst (λ (l : List (List ℕ)). IsFairRebalancing (policy_of c.args.self.now.machine) c.args.self.now l) c.as_slice.ensures
    (subst (λ (v : World). IsFairRebalancing (policy_of v.machine) v lines) c.self.view_is fair)

-- ---- memory was refused

pub invariant_of-self-in-Err : goal.invariant_of-self-in-Err
invariant_of-self-in-Err c =
    let w = world_of c.self.inside.parts in
    let fails = not-failed w.phase (sym c.eq.ensures ∙ c.if-eq.false) in
    let failed = ap (λ (v : World). v.phase) c.fail.ensures.failed in
    let from = fails-from w (world_of c.bound.new.parts) (world_of c.fail.new.parts) c.in-Err.ensures.kept c.fail.ensures.failed in
    record {
      paired = paired-kept w (world_of c.fail.new.parts) from c.self.invariant.paired;
      adds_up = fails-whole w (world_of c.bound.new.parts) (world_of c.fail.new.parts) (c.self.invariant.sound fails) c.in-Err.ensures.kept c.fail.ensures.failed c.fail.ensures.adds_up;
      sound = λ no. absurd (no failed);
      booked = λ no. absurd (no failed);
    }

pub returns-in-Err-clause-failed : goal.returns-in-Err-clause-failed
returns-in-Err-clause-failed c =
    let fails = not-failed c.self.inside.parts.phase (sym c.eq.ensures ∙ c.if-eq.false) in
    (λ is. memory-failed is, λ is. absurd (fails (ap (λ (v : World). v.phase) c.self.view_is ∙ is)))

pub returns-in-Err-clause-unchanged : goal.returns-in-Err-clause-unchanged
returns-in-Err-clause-unchanged c = λ is. memory-failed is

pub returns-in-Err-clause-memory : goal.returns-in-Err-clause-memory
returns-in-Err-clause-memory c =
    let new = world_of c.fail.new.parts in
    let lines = map string_bytes c.as_slice.result.now in
    λ _. subst (λ (l : List (List ℕ)). FailsAfterSome c.args.self.now l new) c.as_slice.ensures
    (subst (λ (v : World). FailsAfterSome v lines new) c.self.view_is
    (fails-some (world_of c.self.inside.parts) (world_of c.bound.new.parts) new lines c.in-Err.ensures.memory c.fail.ensures.failed))

pub returns-in-Err-clause-wanted : goal.returns-in-Err-clause-wanted
returns-in-Err-clause-wanted c =
    let long = ap (λ (lines : List (List ℕ)). length lines) c.as_slice.ensures in
    let wide = length-map c.as_slice.result.now string_bytes in
    let named = ap (λ (w : World). length w.names) c.self.view_is in
    λ _. ⊎_elim (λ (some : 0 < length c.self.inside.parts.names). inl (omega (arith, named, some))) (λ (some : 0 < length c.as_slice.result.now). inr (omega (arith, long, wide, some))) c.in-Err.ensures.wanted

pub returns-in-Err-clause-kept : goal.returns-in-Err-clause-kept
returns-in-Err-clause-kept c =
    let new = world_of c.fail.new.parts in
    λ _. subst (λ (v : World). FailsFrom v new) c.self.view_is
    (fails-from (world_of c.self.inside.parts) (world_of c.bound.new.parts) new c.in-Err.ensures.kept c.fail.ensures.failed)

pub returns-in-Err-clause-conserves : goal.returns-in-Err-clause-conserves
returns-in-Err-clause-conserves c =
    let w = world_of c.self.inside.parts in
    let fails = not-failed w.phase (sym c.eq.ensures ∙ c.if-eq.false) in
    fails-whole w (world_of c.bound.new.parts) (world_of c.fail.new.parts) (c.self.invariant.sound fails) c.in-Err.ensures.kept c.fail.ensures.failed c.fail.ensures.adds_up
