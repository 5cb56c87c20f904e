use Rattle.std.proofs.Common.{◌∙◌, ap}
use Rattle.vm_commands.specs.Sizes.{pages_of_size}
use Rattle.vm_commands.proofs.SizeLaws.{IsSize-if_some, pages_of_size-spelled}
use Rattle.vm_commands.proofs.size.scaled_pages.Goals as goal

pub returns-clause-size : goal.returns-clause-size
returns-clause-size c = IsSize-if_some c.args.page c.args.text.now c.pages_of_size.result c.requires (c.pages_of_size.ensures ∙ ap (pages_of_size c.args.page) c.as_bytes.ensures.value)

pub returns-clause-accepts : goal.returns-clause-accepts
returns-clause-accepts c = λ pages size. c.pages_of_size.ensures ∙ ap (pages_of_size c.args.page) c.as_bytes.ensures.value ∙ pages_of_size-spelled c.args.page c.args.text.now pages c.requires size
