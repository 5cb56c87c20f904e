use Rattle.std.specs.Prelude.{◌≡◌, Bool, true, false, not, refl}
use Rattle.std.proofs.Common.{sym, ◌∙◌}
use Rattle.vm_swap.proofs.Absent.{get-absent}
use Rattle.pages_tests.proofs.tests.swap.check_absent.Goals as goal

refused : (b : Bool) → not b ≡ true → b ≡ false
refused true e = sym e
refused false e = refl

pub returns : goal.returns
returns g c = get-absent c.args.area.now.pages c.args.page (sym c.get_into.ensures.found ∙ refused c.get_into.result c.check.ensures)
