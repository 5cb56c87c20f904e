-- What a boundary takes from its guests and gives them, found before the first move, and how it is carried out.
use Rattle.std.specs.Prelude.{◌<◌, ◌≤◌, ⊤, List, [], ◌∷◌, fold, length}
use Rattle.vm_guest.specs.Boundary.{revoked}
use Rattle.vm_plan.specs.declared.state.State.{State}
use Rattle.vm_pool.specs.Changes.{changed, granted_at, released_at, surplus_of, with_orders}
use Rattle.vm_pool.specs.CanMove.{CanGrant, CanRevoke}
use Rattle.vm_pool.specs.Pool.{PoolView, guest_at}
use Rattle.vm_reclaim.specs.declared.lists.BoundaryPlan.{BoundaryPlan}
use Rattle.vm_reclaim.specs.declared.lists.Paged.{Paged}
use Rattle.vm_reclaim.specs.Policy.{Policy}
use Rattle.vm_reclaim.specs.Rebalance.{pool_rebalanced, rebalances_in}
use Rattle.vm_reclaim.specs.Reclaim.{blocked_from, counts_of, grants_in, paged_from, pool_granted, pool_paged, pool_revoked, revocations_in, blocks_in}

-- ---- what is planned: each list is that of the frames as those before it leave them

-- the frames once targets fell and guests gave up frames
abbrev pub pool_reclaimed : Policy → State → PoolView → PoolView
pool_reclaimed policy state pool = pool_paged policy state (pool_revoked policy state pool)

-- and once targets rose
abbrev pub pool_settled : Policy → State → PoolView → PoolView
pool_settled policy state pool = pool_granted policy state (pool_reclaimed policy state pool)

-- and once they fell for guests that would pay more
abbrev pub pool_balanced : Policy → State → PoolView → PoolView
pool_balanced policy state pool = pool_rebalanced policy state (pool_settled policy state pool)

abbrev pub plan_of : Policy → State → PoolView → BoundaryPlan
plan_of policy state pool = record {
  revoked = revocations_in policy state pool;
  paged = paged_from 0 (counts_of state policy.page_rate (pool_revoked policy state pool).guests);
  granted = grants_in policy state (pool_reclaimed policy state pool);
  rebalanced = rebalances_in policy state (pool_settled policy state pool);
  blocked = blocked_from 0 (with_orders (blocks_in state) (pool_balanced policy state pool)).guests;
}

-- ---- how it is carried out

-- a guest gives up so many frames
abbrev pub given_up : PoolView → Paged → PoolView
given_up pool paged = released_at paged.count pool paged.position

-- the frames once the targets of a plan fell
abbrev pub with_falls : BoundaryPlan → PoolView → PoolView
with_falls plan pool = fold (changed revoked) pool plan.revoked

-- and once guests gave up frames
abbrev pub with_paging : BoundaryPlan → PoolView → PoolView
with_paging plan pool = fold given_up (with_falls plan pool) plan.paged

-- and once targets rose
abbrev pub with_rises : BoundaryPlan → PoolView → PoolView
with_rises plan pool = fold granted_at (with_paging plan pool) plan.granted

-- and once they fell for guests that would pay more
abbrev pub carried_out : BoundaryPlan → PoolView → PoolView
carried_out plan pool = fold (changed revoked) (with_rises plan pool) plan.rebalanced

-- ---- which plans can be

-- the guest at the position has so many frames above its target
pub record HasToGive (pool : PoolView) (paged : Paged) : Type 0 where
  pub within : paged.position < length pool.guests
  pub few : paged.count ≤ surplus_of (guest_at pool paged.position)

-- each of these can give up its frames, one after the other
abbrev pub CanGiveUp : PoolView → List Paged → Type 0
CanGiveUp pool [] = ⊤
CanGiveUp pool (paged ∷ later) = HasToGive pool paged × CanGiveUp (given_up pool paged) later

-- each move of a plan can be done in its turn
pub record CanCarryOut (pool : PoolView) (plan : BoundaryPlan) : Type 0 where
  pub can_fall : CanRevoke pool plan.revoked
  pub can_give_up : CanGiveUp (with_falls plan pool) plan.paged
  pub can_rise : CanGrant (with_paging plan pool) plan.granted
  pub can_rebalance : CanRevoke (with_rises plan pool) plan.rebalanced
