use Rattle.std.proofs.Common.{ap, ◌∙◌}
use Rattle.vm_sampling.specs.Words.{words_after}
use Rattle.vm_sampling.proofs.words.Words.skip.Goals as goal

pub returns : goal.returns
unfolding words_after
returns c = c.advance.ensures ∙ ap (words_after c.args.count) c.self.view_is
