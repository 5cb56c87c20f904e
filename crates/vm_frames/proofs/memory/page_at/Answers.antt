use Rattle.vm_frames.proofs.memory.page_at.Goals as goal

pub returns : goal.returns
returns c = c.byte_add.ensures.value
