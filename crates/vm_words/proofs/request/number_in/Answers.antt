use Rattle.std.proofs.Common.{◌∙◌}
use Rattle.vm_words.proofs.NumberLemmas.{number_in-parse}
use Rattle.vm_words.proofs.request.number_in.Goals as goal

pub returns : goal.returns
returns c = c.ok.ensures.value ∙ number_in-parse c.args.text.now c.parse.result c.parse.ensures.value.0
