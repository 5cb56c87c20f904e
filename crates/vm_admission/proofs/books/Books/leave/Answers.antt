use Rattle.std.proofs.Common.{ap}
use Rattle.vm_admission.specs.Accounts.{Accounts, without_guest}
use Rattle.vm_admission.proofs.books.Books.leave.Goals as goal

pub returns : goal.returns
returns c = ap (λ (a : Accounts). without_guest a c.args.min c.args.reserve) c.self.view_is
