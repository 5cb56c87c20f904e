use Rattle.std.proofs.Common.{◌∙◌, ◌+◌, List, drop, fold, ap, subst, sym}
use Rattle.std.proofs.lemmas.List.{drop_more}
use Rattle.vm_pool.specs.Pool.{PoolView}
use Rattle.vm_reclaim.specs.declared.lists.Paged.{Paged}
use Rattle.vm_reclaim.specs.Boundary.{given_up, CanGiveUp}
use Rattle.vm_reclaim.proofs.reclaim.give_up_all.Goals as goal

pub release-requires-clause-within : goal.release-requires-clause-within
release-requires-clause-within c =
    let left = drop_more c.args.paged.now c.loop-guest.guest-index (record { position = 0; count = 0 }) c.loop-guest-test.true in
    (subst (λ (l : List Paged). CanGiveUp c.loop-guest.pool l) left c.loop-guest.invariant.can).0.within

pub release-requires-clause-few : goal.release-requires-clause-few
release-requires-clause-few c =
    let left = drop_more c.args.paged.now c.loop-guest.guest-index (record { position = 0; count = 0 }) c.loop-guest-test.true in
    (subst (λ (l : List Paged). CanGiveUp c.loop-guest.pool l) left c.loop-guest.invariant.can).0.few

pub loop-guest-preserved : goal.loop-guest-preserved
loop-guest-preserved c =
    let pool = c.loop-guest.pool in
    let later = drop (c.loop-guest.guest-index + 1) c.args.paged.now in
    let left = drop_more c.args.paged.now c.loop-guest.guest-index (record { position = 0; count = 0 }) c.loop-guest-test.true in
    let can = subst (λ (l : List Paged). CanGiveUp pool l) left c.loop-guest.invariant.can in
    record {
      done = ap (λ (p : PoolView). fold given_up p later) c.release.ensures ∙ (ap (λ (l : List Paged). fold given_up pool l) (sym left) ∙ c.loop-guest.invariant.done);
      can = subst (λ (p : PoolView). CanGiveUp p later) (sym c.release.ensures) can.1;
    }
