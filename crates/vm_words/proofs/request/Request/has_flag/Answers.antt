use Rattle.std.proofs.Common.{◌∙◌, ap}
use Rattle.vm_words.specs.Words.{has_flag, says_true}
use Rattle.vm_words.proofs.request.Request.has_flag.Goals as goal

pub returns : goal.returns
unfolding has_flag
returns c = c.says_true.ensures ∙ ap says_true c.text.ensures
