use Rattle.std.proofs.Common.{◌≡◌, ◌∙◌, ◌<◌, IsSomeAnd, subst, sym}
use Rattle.vm_pool.specs.Pool.{PoolView, guest_at}
use Rattle.vm_tax.specs.Ratio.{hundredths}
use Rattle.vm_reclaim.specs.Room.{raise_to}
use Rattle.vm_reclaim.specs.declared.room.Raise.{Raise}
use Rattle.vm_reclaim.specs.Making.{CanRaise}
use Rattle.vm_reclaim.proofs.RoomLemmas.{raise_room}
use Rattle.vm_host.proofs.RefusedLemmas.{lower-room, refused}
use Rattle.vm_host.proofs.obey.set_minimum.Goals as goal

pub set_min-requires-clause-within : goal.set_min-requires-clause-within
set_min-requires-clause-within c =
    let raise : Raise = record { position = c.args.position; least = c.args.least } in
    let made = raise_room (hundredths c.args.tax) raise c.lacking_at-lacking.result c.args.pool.now c.requires.raise in
    let can = subst (λ (p : PoolView). CanRaise (raise_to c.args.position c.args.least) p) (sym c.in_ok-plan.ensures.done) made in
    can.within

pub set_min-requires-clause-to : goal.set_min-requires-clause-to
set_min-requires-clause-to c =
    let raise : Raise = record { position = c.args.position; least = c.args.least } in
    let made = raise_room (hundredths c.args.tax) raise c.lacking_at-lacking.result c.args.pool.now c.requires.raise in
    let can = subst (λ (p : PoolView). CanRaise (raise_to c.args.position c.args.least) p) (sym c.in_ok-plan.ensures.done) made in
    can.to

pub returns-in_err-set_min-clause-unchanged : goal.returns-in_err-set_min-clause-unchanged
returns-in_err-set_min-clause-unchanged c =
    let tax = hundredths c.args.tax in
    let raise : Raise = record { position = c.args.position; least = c.args.least } in
    let pool = c.args.pool.now in
    let made = c.in_ok-plan.ensures.done in
    let low = subst (λ (p : PoolView). IsSomeAnd (guest_at p c.args.position) (λ g. c.args.least < g.allotment.least_min)) made c.in_err-set_min.ensures.lowered in
    let same = lower-room tax raise c.lacking_at-lacking.result pool c.requires.sound.good c.lacking_at-lacking.ensures low in
    refused c.from_residual-in_err-set_min.result (c.set_min.new.self ≡ pool) (c.in_err-set_min.ensures.unchanged ∙ (made ∙ same))
