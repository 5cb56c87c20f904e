use Rattle.std.proofs.Common.{◌≡◌, ◌∙◌, ◌<◌, ℕ, Bool, List, OnOk, Result, Ok, Err, ap, arith, length, refl, subst, sym}
use Rattle.std.proofs.lemmas.Result.{IfOk-from_err}
use Rattle.std.specs.Result.{IsErr}
use Rattle.vm_plan.specs.declared.state.State.{State}
use Rattle.vm_plan.specs.State.{next_state_of}
use Rattle.vm_pool.specs.Changes.{with_orders}
use Rattle.vm_pool.specs.Pool.{PoolView}
use Rattle.vm_sound.specs.Sound.{HasSameSetup}
use Rattle.vm_reclaim.specs.declared.lists.BoundaryPlan.{BoundaryPlan}
use Rattle.vm_reclaim.specs.Boundary.{plan_of, pool_balanced}
use Rattle.vm_reclaim.specs.Numbers.{policy_in}
use Rattle.vm_reclaim.specs.Policy.{Policy}
use Rattle.vm_reclaim.specs.Reclaim.{blocks_in}
use Rattle.vm_host.specs.declared.boundary.Boundary.{Boundary}
use Rattle.vm_host.specs.Answers.{AnswerValue}
use Rattle.vm_host.specs.Boundary.{done_after_lines, finished}
use Rattle.vm_host.specs.Parts.{world_of}
use Rattle.vm_host.specs.World.{World}
use Rattle.vm_host.proofs.RefusedLemmas.{refused}
use Rattle.vm_host.proofs.SetupLemmas.{setup-balanced, setup-none}
use Rattle.vm_host.proofs.stages.settle.Goals as goal

pub plan_boundary-requires : goal.plan_boundary-requires
plan_boundary-requires c =
    let paired = c.requires.pool.paired in
    let limit = c.requires.pool.few in
    omega (arith, paired, limit)

pub carry_out-requires : goal.carry_out-requires
carry_out-requires c = c.in_ok-plan.ensures.can

-- the state is that found, and the pool is moved by the plan for it
settled-as : (w : World) (policy : Policy) (state : State) (blocks : Bool) (pool : PoolView) → state ≡ next_state_of w.state w.pool.free policy.thresholds → blocks ≡ blocks_in state
    → pool ≡ with_orders blocks (pool_balanced policy state w.pool) → record w { pool = pool; state = state } ≡ finished policy w
settled-as w policy state blocks pool found blocked moved =
    (λ i. record w { pool = (moved ∙ ap (λ (b : Bool). with_orders b (pool_balanced policy state w.pool)) blocked) i; state = state })
    ∙ ap (λ (s : State). record w { pool = with_orders (blocks_in s) (pool_balanced policy s w.pool); state = s }) found

-- what was done by a plan
abbrev as-told : List AnswerValue → State → ℕ → BoundaryPlan → Boundary
as-told answers state free plan = record { answers = answers; state = state; free = free; revoked = plan.revoked; paged = plan.paged; granted = plan.granted; rebalanced = plan.rebalanced; blocked = plan.blocked }

told-as : (w : World) (policy : Policy) (state : State) (free : ℕ) (plan : BoundaryPlan) (answers told : List AnswerValue) → told ≡ answers → free ≡ w.pool.free
    → state ≡ next_state_of w.state w.pool.free policy.thresholds → plan ≡ plan_of policy state w.pool
    → as-told told state free plan ≡ done_after_lines policy w answers
told-as w policy state free plan answers told same frames found planned =
    ap (λ (p : BoundaryPlan). as-told told state free p) planned
    ∙ (λ i. as-told (same i) (found i) (frames i) (plan_of policy (found i) w.pool))

pub returns-clause-done : goal.returns-clause-done
returns-clause-done c =
    let w = world_of c.args.parts.now in
    let policy = policy_in c.numbers_of-numbers.result in
    let state = c.next_state-state.result in
    let found = c.next_state-state.ensures.exact ∙ ap (λ (n : ℕ). next_state_of w.state n policy.thresholds) c.free-free.ensures.free in
    let moved = c.order_all.ensures ∙ ap (with_orders c.blocks_in.result) (c.carry_out.ensures ∙ c.in_ok-plan.ensures.done) in
    settled-as w policy state c.blocks_in.result c.order_all.new.self found c.blocks_in.ensures moved ∙ ap (λ (p : Policy). finished p w) c.numbers_of-numbers.ensures

pub returns-clause-told : goal.returns-clause-told
returns-clause-told c =
    let w = world_of c.args.parts.now in
    let answers = c.args.answers.items in
    let policy = policy_in c.numbers_of-numbers.result in
    let found = c.next_state-state.ensures.exact ∙ ap (λ (n : ℕ). next_state_of w.state n policy.thresholds) c.free-free.ensures.free in
    told-as w policy c.next_state-state.result c.free-free.result c.in_ok-plan.plan answers c.new.result c.new.ensures c.free-free.ensures.free found c.in_ok-plan.ensures.plan
    ∙ ap (λ (p : Policy). done_after_lines p w answers) c.numbers_of-numbers.ensures

pub returns-clause-kept : goal.returns-clause-kept
returns-clause-kept c =
    let first = c.args.parts.now.pool in
    let blocks = c.blocks_in.result in
    let moved = c.order_all.ensures ∙ ap (with_orders blocks) (c.carry_out.ensures ∙ c.in_ok-plan.ensures.done) in
    record {
      machine = refl;
      names = refl;
      setup = subst (HasSameSetup first) (sym moved) (setup-balanced (policy_in c.numbers_of-numbers.result) c.next_state-state.result blocks first);
    }

-- ---- memory was refused

none-done : {A E : Type 0} (r : Result A E) (P : Type 0) → IsErr r → OnOk r P
none-done (Ok x) P is = absurd cc
none-done (Err e) P is = tt

pub returns-in_err-plan-clause-done : goal.returns-in_err-plan-clause-done
returns-in_err-plan-clause-done c = none-done c.from_residual.result _ c.from_residual.ensures.0

pub returns-in_err-plan-clause-told : goal.returns-in_err-plan-clause-told
returns-in_err-plan-clause-told c = IfOk-from_err c.from_residual.result _ c.from_residual.ensures.0

pub returns-in_err-plan-clause-kept : goal.returns-in_err-plan-clause-kept
returns-in_err-plan-clause-kept c = record { machine = refl; names = refl; setup = setup-none c.args.parts.now.pool }

pub returns-in_err-plan-clause-unchanged : goal.returns-in_err-plan-clause-unchanged
returns-in_err-plan-clause-unchanged c = refused c.from_residual.result (world_of c.args.parts.now ≡ world_of c.args.parts.now) refl

pub returns-in_err-plan-clause-wanted : goal.returns-in_err-plan-clause-wanted
returns-in_err-plan-clause-wanted c = refused c.from_residual.result (0 < length c.args.parts.now.pool.guests) c.in_err-plan.ensures.memory
