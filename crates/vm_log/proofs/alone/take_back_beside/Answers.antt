use Rattle.std.proofs.Common.{◌<◌, length, arith, refl}
use Rattle.vm_log.specs.Steps.{alone_back}
use Rattle.vm_log.proofs.LoopLemmas.{map_next}
use Rattle.vm_log.proofs.alone.take_back_beside.Goals as goal

pub loop-place-preserved : goal.loop-place-preserved
loop-place-preserved c =
    let less : c.loop-place.place < length c.args.beside.now = omega (arith, c.loop-place.invariant.ends, c.loop-place-test.true) in
    record {
      ends = refl;
      done = map_next alone_back c.args.beside.now c.loop-place.beside c.loop-place.place c.index-beside-place.result c.take_back.new.alone less c.loop-place.invariant.done c.take_back.ensures;
    }
