use Rattle.std.proofs.Common.{◌≡◌, ℕ, List, subst, sym}
use Rattle.vm_pool.specs.CanMove.{CanGrant, CanRevoke}
use Rattle.vm_pool.specs.Pool.{PoolView}
use Rattle.vm_reclaim.specs.declared.lists.Paged.{Paged}
use Rattle.vm_reclaim.specs.Boundary.{with_falls, with_paging, with_rises, CanGiveUp}
use Rattle.vm_reclaim.proofs.reclaim.carry_out.Goals as goal

-- what a plan can still do is so of the same frames and the same list
can-give : (falls pool : PoolView) (list told : List Paged) → pool ≡ falls → told ≡ list → CanGiveUp falls list → CanGiveUp pool told
can-give falls pool list told same is can = subst (λ (l : List Paged). CanGiveUp pool l) (sym is) (subst (λ (p : PoolView). CanGiveUp p list) (sym same) can)

can-rise : (before pool : PoolView) (moves : List ℕ) → pool ≡ before → CanGrant before moves → CanGrant pool moves
can-rise before pool moves same can = subst (λ (p : PoolView). CanGrant p moves) (sym same) can

pub give_up_all-requires : goal.give_up_all-requires
give_up_all-requires c = can-give (with_falls c.args.plan.now c.args.pool.now) _ c.args.plan.now.paged c.as_slice.result.now (cc) c.as_slice.ensures c.requires.can_give_up

pub grant_all-requires : goal.grant_all-requires
grant_all-requires c = can-rise (with_paging c.args.plan.now c.args.pool.now) c.give_up_all.new.pool c.args.plan.now.granted (cc) c.requires.can_rise

can-fall : (rises pool : PoolView) (moves : List ℕ) → pool ≡ rises → CanRevoke rises moves → CanRevoke pool moves
can-fall rises pool moves same can = subst (λ (p : PoolView). CanRevoke p moves) (sym same) can

pub revoke_all-requires-2 : goal.revoke_all-requires-2
revoke_all-requires-2 c = can-fall (with_rises c.args.plan.now c.args.pool.now) c.grant_all.new.pool c.args.plan.now.rebalanced (cc) c.requires.can_rebalance

pub returns : goal.returns
returns c = cc
