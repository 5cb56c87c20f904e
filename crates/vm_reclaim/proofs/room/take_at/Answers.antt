use Rattle.std.proofs.Common.{◌<◌, ◌≤◌, ◌∙◌, ap, length, subst, sym}
use Rattle.vm_pool.specs.Changes.{released_at, surplus_of}
use Rattle.vm_pool.specs.Pool.{PoolView, guest_at}
use Rattle.vm_reclaim.proofs.TogetherLemmas.{can-revoke-taken, left-within, surplus-left, taken-together}
use Rattle.vm_reclaim.proofs.room.take_at.Goals as goal

pub revoke-requires : goal.revoke-requires
revoke-requires c = can-revoke-taken c.args.count c.args.pool.now c.args.position c.requires

pub release-requires-clause-within : goal.release-requires-clause-within
release-requires-clause-within c =
    subst (λ (p : PoolView). c.args.position < length p.guests) (sym c.revoke.ensures)
    (left-within c.args.count c.args.pool.now c.args.position c.if-count-gt0.true c.requires)

pub release-requires-clause-few : goal.release-requires-clause-few
release-requires-clause-few c =
    subst (λ (p : PoolView). c.args.count ≤ surplus_of (guest_at p c.args.position)) (sym c.revoke.ensures)
    (surplus-left c.args.count c.args.pool.now c.args.position c.if-count-gt0.true c.requires)

pub returns-then-count-gt0 : goal.returns-then-count-gt0
returns-then-count-gt0 c =
    c.release.ensures
    ∙ (ap (λ (p : PoolView). released_at c.args.count p c.args.position) c.revoke.ensures
    ∙ taken-together c.args.count c.args.pool.now c.args.position)
