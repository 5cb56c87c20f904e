use Rattle.std.proofs.Common.{◌≡◌, ◌∙◌, ◌-◌, ◌<◌, ◌≤◌, arith, length, suc}
use Rattle.vm_log.proofs.LoopLemmas.{back_next, back_room}
use Rattle.vm_log.proofs.closing.take_back_all.Goals as goal

pub take_back_at-requires : goal.take_back_at-requires
take_back_at-requires c =
    let some = c.loop-place-test.true in
    let room = back_room c.args.policy.now.most c.args.kept.now c.args.guests.now.items c.loop-place.guests.items c.loop-place.place c.loop-place.invariant.done (omega (arith, c.loop-place.invariant.few, c.requires)) in
    omega (arith, some, room)

pub loop-place-preserved : goal.loop-place-preserved
loop-place-preserved c =
    let some = c.loop-place-test.true in
    let less : c.loop-place.place - 1 < length c.args.guests.now.items = omega (arith, some, c.loop-place.invariant.few, c.requires) in
    let next : c.loop-place.place ≡ suc (c.loop-place.place - 1) = omega (arith, some) in
    record {
      few = omega (arith, c.loop-place.invariant.few);
      done = c.take_back_at.ensures ∙ back_next c.args.policy.now.most c.args.kept.now c.args.guests.now.items c.loop-place.guests.items c.loop-place.place (c.loop-place.place - 1) _ c.requires less next c.loop-place.invariant.done;
    }
