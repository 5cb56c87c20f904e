use Rattle.std.proofs.Common.{◌<◌, length, arith, refl}
use Rattle.vm_log.specs.Steps.{kept_alone}
use Rattle.vm_log.proofs.LoopLemmas.{map_next}
use Rattle.vm_log.proofs.alone.keep_beside.Goals as goal

pub loop-place-preserved : goal.loop-place-preserved
loop-place-preserved c =
    let less : c.loop-place.place < length c.args.beside.now = omega (arith, c.loop-place.invariant.ends, c.loop-place-test.true) in
    record {
      ends = refl;
      done = map_next kept_alone c.args.beside.now c.loop-place.beside c.loop-place.place c.index-beside-place.result c.keep.new.alone less c.loop-place.invariant.done c.keep.ensures;
    }
