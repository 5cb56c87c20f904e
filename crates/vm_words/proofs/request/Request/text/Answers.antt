use Rattle.std.proofs.Common.{◌∙◌, ap}
use Rattle.clap.specs.Words.{first_of, found_of}
use Rattle.clap.proofs.WalkLemmas.{first_value-rows}
use Rattle.vm_words.specs.Words.{text_of}
use Rattle.vm_words.proofs.request.Request.text.Goals as goal

pub returns : goal.returns
unfolding text_of
returns c =
    c.get_str.ensures ∙ first_value-rows (found_of c.self.inside.matches) c.args.name.now ∙ ap (first_of c.args.name.now) c.self.view_is
