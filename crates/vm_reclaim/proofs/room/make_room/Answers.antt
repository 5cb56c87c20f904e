use Rattle.std.proofs.Common.{◌-◌, ◌∙◌, List, ℕ, ap, arith, fold, length, subst, sym}
use Rattle.vm_pool.specs.Changes.{taken_at, with_released, AreReleasable}
use Rattle.vm_pool.specs.Pool.{PoolView}
use Rattle.vm_tax.specs.Ratio.{hundredths}
use Rattle.vm_reclaim.specs.Fairness.{TakesFromCheapest}
use Rattle.vm_sound.specs.Moves.{CanTake}
use Rattle.vm_reclaim.specs.Room.{raised, revocations_for_room, with_surplus_back}
use Rattle.vm_sound.specs.Sound.{HasSameSetup}
use Rattle.vm_reclaim.proofs.FairLemmas.{fair-command}
use Rattle.vm_reclaim.proofs.RoomLemmas.{kept_room, list_of_room}
use Rattle.vm_reclaim.proofs.RowLemmas.{length-raised, length-shares, releasable}
use Rattle.vm_reclaim.proofs.TakeLemmas.{can_make}
use Rattle.vm_reclaim.proofs.room.make_room.Goals as goal

pub release_all-requires-clause-length : goal.release_all-requires-clause-length
release_all-requires-clause-length c =
    let pool = c.args.pool.now in
    ap length (c.deref.ensures.value ∙ c.in_ok-room.ensures.counts)
    ∙ (length-shares (c.args.needed - pool.free) (raised c.args.raise pool).guests ∙ length-raised c.args.raise pool)

pub release_all-requires-clause-few : goal.release_all-requires-clause-few
release_all-requires-clause-few c =
    let pool = c.args.pool.now in
    subst (λ (counts : List ℕ). AreReleasable counts pool.guests) (sym (c.deref.ensures.value ∙ c.in_ok-room.ensures.counts)) (releasable c.args.raise c.args.needed pool)

pub take_all-requires : goal.take_all-requires
take_all-requires c =
    let raise = c.args.raise in
    let needed = c.args.needed in
    let pool = c.args.pool.now in
    let tax = hundredths c.args.tax in
    let good = c.in_ok-room.ensures.good in
    let left = with_surplus_back raise needed pool in
    let given = c.release_all.ensures ∙ ap (λ (counts : List ℕ). with_released counts pool) (c.deref.ensures.value ∙ c.in_ok-room.ensures.counts) in
    let can = can_make tax raise needed (needed - left.free) pool (revocations_for_room tax raise needed pool) good c.requires.needed (omega arith) (list_of_room tax raise needed pool good) in
    subst (λ (moves : List ℕ). CanTake c.release_all.new.self moves) (sym c.in_ok-room.ensures.plan)
    (subst (λ (p : PoolView). CanTake p (revocations_for_room tax raise needed pool)) (sym given) can)

pub returns-clause-fair : goal.returns-clause-fair
returns-clause-fair c =
    let raise = c.args.raise in
    let needed = c.args.needed in
    let pool = c.args.pool.now in
    let tax = hundredths c.args.tax in
    let left = with_surplus_back raise needed pool in
    subst (λ (moves : List ℕ). TakesFromCheapest tax taken_at (raised raise left) moves) (sym c.in_ok-room.ensures.plan)
    (fair-command tax (needed - left.free) (raised raise left) (revocations_for_room tax raise needed pool) (list_of_room tax raise needed pool c.in_ok-room.ensures.good))

pub returns-clause-setup : goal.returns-clause-setup
returns-clause-setup c =
    let raise = c.args.raise in
    let needed = c.args.needed in
    let pool = c.args.pool.now in
    let tax = hundredths c.args.tax in
    let given = c.release_all.ensures ∙ ap (λ (counts : List ℕ). with_released counts pool) (c.deref.ensures.value ∙ c.in_ok-room.ensures.counts) in
    let done = c.take_all.ensures ∙ (λ i. fold taken_at (given i) (c.in_ok-room.ensures.plan i)) in
    subst (λ (p : PoolView). HasSameSetup pool p) (sym done) (kept_room tax raise needed pool)
