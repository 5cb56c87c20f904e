use Rattle.std.proofs.Common.{◌<◌, ◌≡◌, length, arith, refl}
use Rattle.vm_log.specs.Steps.{raised_all}
use Rattle.vm_log.proofs.LoopLemmas.{length_raised, put_all, raised_next}
use Rattle.vm_log.proofs.raising.raise_all.Goals as goal

pub loop-place-preserved : goal.loop-place-preserved
loop-place-preserved c =
    let less : c.loop-place.place < length c.args.guests.now = omega (arith, c.loop-place.invariant.ends, c.loop-place-test.true) in
    record {
      ends = refl;
      done = raised_next c.args.policy.now.most c.args.epoch c.args.entries.now c.args.kept.now c.args.guests.now c.loop-place.guests c.loop-place.place _ c.index-guests-place.result c.raise.new.guest c.requires.same less c.loop-place.invariant.done c.in_ok-raise.ensures;
    }

pub returns : goal.returns
returns c =
    let end : c.loop-place.place ≡ length c.args.guests.now = omega (arith, c.loop-place.invariant.ends, c.loop-place-test.false) in
    put_all (raised_all c.args.policy.now.most c.args.epoch c.args.entries.now c.args.kept.now c.args.guests.now) c.args.guests.now c.loop-place.guests c.loop-place.place (length_raised c.args.policy.now.most c.args.epoch c.args.entries.now c.args.kept.now c.args.guests.now c.requires.same) end c.loop-place.invariant.done
