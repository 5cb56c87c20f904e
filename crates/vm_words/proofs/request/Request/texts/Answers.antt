use Rattle.std.proofs.Common.{◌∙◌, List, Option, [], ap, unwrap_or}
use Rattle.clap.specs.Words.{Text, all_of, found_of}
use Rattle.clap.proofs.WalkLemmas.{raw_values-rows}
use Rattle.vm_words.specs.Words.{texts_of}
use Rattle.vm_words.proofs.request.Request.texts.Goals as goal

pub returns : goal.returns
unfolding texts_of
returns c =
    ap (λ (texts : Option (List Text)). unwrap_or texts [])
    (c.get_strs.ensures ∙ raw_values-rows (found_of c.self.inside.matches) c.args.name.now ∙ ap (all_of c.args.name.now) c.self.view_is)
