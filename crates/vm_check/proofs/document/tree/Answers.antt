use Rattle.std.proofs.Common.{sym, ◌∙◌}
use Rattle.vm_check.proofs.TreeLemmas.{tree_of_others, tree_of_text}
use Rattle.vm_check.proofs.document.tree.Goals as goal

pub returns-in_default : goal.returns-in_default
returns-in_default c = tree_of_others c.args.text.now c.in_default.ensures.cases.0

pub returns-in-Ok-parse : goal.returns-in-Ok-parse
returns-in-Ok-parse c =
    sym (tree_of_text c.args.text.now c.in-Ok.text.now c.in-Ok.ensures.cases.0 c.in-Ok.ensures.cases.1 ∙ c.in-Ok-parse.ensures.ok)
