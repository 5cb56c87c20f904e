use Rattle.vm_patches.proofs.patched_frame.read_contents.Goals as goal

pub returns-in-Few : goal.returns-in-Few
returns-in-Few c = rw c.in-Few.is c.read.ensures
