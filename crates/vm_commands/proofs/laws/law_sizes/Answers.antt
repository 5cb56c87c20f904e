use Rattle.vm_commands.proofs.SizeLaws.{IsSize-from_read, pages_of_size-spelled}
use Rattle.vm_commands.proofs.laws.law_sizes.Goals as goal

pub returns : goal.returns
returns c = λ page text pages some. (IsSize-from_read page text pages some, pages_of_size-spelled page text pages some)
