use Rattle.std.proofs.Common.{arith}
use Rattle.vm_guest.proofs.FitLemmas.{pages-parted}
use Rattle.vm_guest.proofs.parts.free_len.Goals as goal

pub overflow_sub-result-2 : goal.overflow_sub-result-2
overflow_sub-result-2 c = omega (arith, pages-parted c.args.parts.now c.requires.fit, c.size.ensures, c.len.ensures, c.balloon_len.ensures.value)

pub returns : goal.returns
returns c = omega (arith, pages-parted c.args.parts.now c.requires.fit, c.size.ensures, c.len.ensures, c.balloon_len.ensures.value)
