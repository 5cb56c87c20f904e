use Rattle.std.proofs.Common.{◌<◌, ◌≡◌, length, arith, refl}
use Rattle.vm_log.specs.Steps.{kept_all}
use Rattle.vm_log.proofs.LoopLemmas.{kept_next, length_kept, put_all}
use Rattle.vm_log.proofs.closing.keep_all.Goals as goal

pub loop-place-preserved : goal.loop-place-preserved
loop-place-preserved c =
    let less : c.loop-place.place < length c.args.kept.now = omega (arith, c.loop-place.invariant.ends, c.loop-place-test.true) in
    record {
      ends = refl;
      done = kept_next c.args.guests.now c.args.counts.now c.args.kept.now c.loop-place.kept c.loop-place.place c.index-guests-place.result _ _ c.kept_with.result c.requires.kept c.requires.counts less c.loop-place.invariant.done c.index-guests-place.is c.kept_with.ensures;
    }

pub returns : goal.returns
returns c =
    let end : c.loop-place.place ≡ length c.args.kept.now = omega (arith, c.loop-place.invariant.ends, c.loop-place-test.false) in
    put_all (kept_all c.args.guests.now c.args.counts.now c.args.kept.now) c.args.kept.now c.loop-place.kept c.loop-place.place (length_kept c.args.guests.now c.args.counts.now c.args.kept.now c.requires.kept c.requires.counts) end c.loop-place.invariant.done
