use Rattle.std.proofs.Common.{arith}
use Rattle.vm_swap.proofs.Marks.{slots_of-forget, whole-with_item}
use Rattle.vm_swap.proofs.index.Index.forget.Goals as goal

pub set-requires : goal.set-requires
set-requires c = let each = c.self.invariant.each in let small = c.requires in omega arith

pub invariant_of-self : goal.invariant_of-self
invariant_of-self c = rw c.set.ensures (whole-with_item c.self.inside.marks c.args.page 0 c.self.invariant)

pub returns : goal.returns
returns c = rw (← c.self.view_is, c.set.ensures) (slots_of-forget c.self.inside.marks.list c.args.page)
