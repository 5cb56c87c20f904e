use Rattle.std.proofs.Common.{refl}
use Rattle.vm_admission.proofs.books.Books.new.Goals as goal

pub returns : goal.returns
returns c = refl
