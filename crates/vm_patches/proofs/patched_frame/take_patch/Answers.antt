use Rattle.std.proofs.Common.{sym, ap, ◌∙◌}
use Rattle.vm_patches.specs.declared.patched_frame.Contents.TheVariants.{Few}
use Rattle.vm_patches.proofs.patched_frame.take_patch.Goals as goal

pub returns-in_ok-patch-in-Few-clause-taken : goal.returns-in_ok-patch-in-Few-clause-taken
returns-in_ok-patch-in-Few-clause-taken c = c.in-Few.is ∙ ap Few (sym c.in_ok-patch-in-Few.ensures.1)
