use Rattle.std.proofs.Common.{refl}
use Rattle.vm_trace.proofs.Padding.{buffer_pairs}
use Rattle.vm_trace.proofs.buffer.Buffer.from_hex.Goals as goal

pub invariant_of-result : goal.invariant_of-result
invariant_of-result c = buffer_pairs c.args.digits.now c.put_pairs.new.buffer _ c.requires.digits c.requires.fits c.put_pairs.ensures refl
