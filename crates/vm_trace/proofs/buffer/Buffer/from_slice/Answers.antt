use Rattle.std.proofs.Common.{refl}
use Rattle.vm_trace.proofs.Padding.{buffer_copy, taken_copy}
use Rattle.vm_trace.proofs.buffer.Buffer.from_slice.Goals as goal

pub invariant_of-result : goal.invariant_of-result
invariant_of-result c = buffer_copy c.args.bytes.now c.copy_from_slice.new.self _ c.requires c.copy_from_slice.ensures.after refl

pub returns : goal.returns
returns c = taken_copy c.args.bytes.now c.copy_from_slice.new.self _ c.copy_from_slice.ensures.after
