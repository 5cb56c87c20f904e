-- What follows the lines changes neither the machine nor the domains.
use Rattle.std.proofs.Common.{◌∙◌, Bool, refl}
use Rattle.vm_plan.specs.declared.state.State.{State}
use Rattle.vm_pool.specs.Changes.{with_orders}
use Rattle.vm_pool.specs.Pool.{PoolView}
use Rattle.vm_reclaim.specs.Boundary.{pool_balanced, pool_settled}
use Rattle.vm_reclaim.specs.Policy.{Policy}
use Rattle.vm_reclaim.specs.Rebalance.{pool_rebalanced, rebalances_in}
use Rattle.vm_reclaim.specs.Reclaim.{grants_in, pool_granted, pool_paged, pool_revoked, revocations_in}
use Rattle.vm_sound.specs.Sound.{HasSameSetup}
use Rattle.vm_sound.proofs.FramesLemmas.{setup-all_granted, setup-all_revoked}

pub setup-none : (pool : PoolView) → HasSameSetup pool pool
setup-none pool = record { frames = refl; overhead = refl; configs = refl }

pub setup-then : (a b c : PoolView) → HasSameSetup a b → HasSameSetup b c → HasSameSetup a c
setup-then a b c first second = record {
  frames = second.frames ∙ first.frames;
  overhead = second.overhead ∙ first.overhead;
  configs = second.configs ∙ first.configs;
}

pub setup-revoked : (policy : Policy) (state : State) (pool : PoolView) → HasSameSetup pool (pool_revoked policy state pool)
setup-revoked policy state pool = setup-all_revoked (revocations_in policy state pool) pool

pub setup-paged : (policy : Policy) (state : State) (pool : PoolView) → HasSameSetup pool (pool_paged policy state pool)
setup-paged policy state pool = record { frames = refl; overhead = refl; configs = refl }

pub setup-granted : (policy : Policy) (state : State) (pool : PoolView) → HasSameSetup pool (pool_granted policy state pool)
setup-granted policy state pool = setup-all_granted (grants_in policy state pool) pool

pub setup-rebalanced : (policy : Policy) (state : State) (pool : PoolView) → HasSameSetup pool (pool_rebalanced policy state pool)
setup-rebalanced policy state pool = setup-all_revoked (rebalances_in policy state pool) pool

pub setup-orders : (blocks : Bool) (pool : PoolView) → HasSameSetup pool (with_orders blocks pool)
setup-orders blocks pool = record { frames = refl; overhead = refl; configs = refl }

-- all that follows the lines
pub setup-balanced : (policy : Policy) (state : State) (blocks : Bool) (pool : PoolView) → HasSameSetup pool (with_orders blocks (pool_balanced policy state pool))
setup-balanced policy state blocks pool =
    let fallen = pool_revoked policy state pool in
    let paged = pool_paged policy state fallen in
    let settled = pool_settled policy state pool in
    let balanced = pool_balanced policy state pool in
    let first = setup-then pool fallen paged (setup-revoked policy state pool) (setup-paged policy state fallen) in
    let second = setup-then pool paged settled first (setup-granted policy state paged) in
    setup-then pool balanced (with_orders blocks balanced) (setup-then pool settled balanced second (setup-rebalanced policy state settled)) (setup-orders blocks balanced)
