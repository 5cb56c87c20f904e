use Rattle.std.proofs.Common.{ℕ, refl, ap, ◌∙◌}
use Rattle.vm_pages.specs.PageTable.{Items}
use Rattle.vm_swap.specs.Index.{slots_of}
use Rattle.vm_swap.proofs.Marks.{slots_of-first, whole_of, cleared}
use Rattle.vm_swap.proofs.index.Index.clear.Goals as goal

pub invariant_of-self : goal.invariant_of-self
invariant_of-self c = whole_of _ 262144 refl (c.clear.ensures ∙ cleared c.self.inside.marks c.self.invariant)

pub returns : goal.returns
returns c = ap (λ (m : Items ℕ). slots_of m.list) (c.clear.ensures ∙ cleared c.self.inside.marks c.self.invariant) ∙ slots_of-first
