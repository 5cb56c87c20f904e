use Rattle.vm_sampling.proofs.words.Words.new.Goals as goal

pub returns : goal.returns
returns c = c.new.ensures
